use Rattle.ordered.proofs.Lexical.{lex_compared, tuples}
use Rattle.notices.specs.Order.{notice_key}
use Rattle.notices.proofs.notice.NoticeRanked.compare.Goals as goal

pub returns : goal.returns
returns c = lex_compared notice_key c.args.self.now c.args.other.now c.cmp.result (rw (c.cmp.ensures, c.key.ensures, c.key-2.ensures) (simp tuples))
