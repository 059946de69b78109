-- What holds of a metered day at all times.
use Rattle.std.specs.Prelude.{◌≡◌, ℕ, cond, pos, nat_lt}
use Rattle.accounts.specs.declared.Accounts.{Accounts}
use Rattle.accounts.specs.Booked.{amounts_of, operator_of, settled_of}
use Rattle.journal.specs.Figures.{Metered, Figures}
use Rattle.journal.specs.Kept.{Kept}
use Rattle.journal.specs.Reckoned.{account_at, operator_at}
use Rattle.book.specs.declared.book.Book.{Book}
use Rattle.book.specs.View.{shown}

-- the figures that a book and the accounts show
abbrev pub metered_of : Book → Accounts → Figures
metered_of book accounts = shown Metered (settled_of accounts) book

-- every figure was accepted, and the accounts are what the settled hours come to
pub record Reckoned (f : Figures) (accounts : Accounts) : Type 0 where
  pub kept : Kept f
  pub amounts : (p : ℕ) → amounts_of accounts p ≡ cond (nat_lt p f.parties) (account_at f p) (pos 0)
  pub operator : operator_of accounts ≡ operator_at f
