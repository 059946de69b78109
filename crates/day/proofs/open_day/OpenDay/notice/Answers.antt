use Rattle.journal.specs.Journal.{Noticed}
use Rattle.journal.specs.Refused.{notice_refused}
use Rattle.day.proofs.Stages.{made_at}
use Rattle.day.proofs.open_day.OpenDay.notice.Goals as goal

pub returns : goal.returns
returns g c = made_at {X = Unit} (λ f. notice_refused f c.args.notice) (λ _. Noticed c.args.notice) c.notice.result c.args.self.now.book c.notice.new.self g.S.Stage.stage (λ _. g.S.Stage.early) c.notice.ensures
