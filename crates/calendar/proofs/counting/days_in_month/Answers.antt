use Rattle.calendar.proofs.counting.days_in_month.Goals as goal

pub returns-then-is_leap : goal.returns-then-is_leap
returns-then-is_leap c = let e = c.if-is_leap.ensures in let m = c.in-2.is in simp (m, ← e)

pub returns-else-is_leap : goal.returns-else-is_leap
returns-else-is_leap c = let e = c.if-is_leap.ensures in let m = c.in-2.is in simp (m, ← e)
