-- What holds of all bids and activations goes on to hold of them through every call, if it holds of what the call brings in.
use Rattle.std.proofs.Common.{◌≡◌, ℕ, ◌+◌, Bool, length, Some, sym, subst}
use Rattle.std.specs.List.{AllByRecursion}
use Rattle.std.proofs.ByRecursion.{All-weaker}
use Rattle.ordered.proofs.Lexical.{lex_order}
use Rattle.ordered.proofs.Placed.{all_placed}
use Rattle.market.specs.declared.words.Activation.{Activation}
use Rattle.market.specs.declared.words.Bid.{Bid}
use Rattle.market.specs.Order.{activation_key}
use Rattle.timetable.specs.Opening.{Opening}
use Rattle.ladder.specs.Ladder.{AllBids, with_held, standing_with}
use Rattle.ladder.specs.Offered.{bid_of}
use Rattle.ladder.proofs.Keeps.{all_added, all_dropped, all_taken, all_marked, with_receipt_lem}
use Rattle.register.specs.Registered.{arrived, with_activation}
use Rattle.journal.specs.Figures.{Figures}
use Rattle.journal.specs.Journal.{Entry, Entered, BidAccepted, Withdrawn, Hold, Activated, Special, listed_of, with_listed, after}

-- what holds of bids and activations, as more parties enter, bids are held, and activations are numbered
pub record Stays (B : Opening → ℕ → Bid → Type 0) (A : Opening → ℕ → Activation → Type 0) : Type 0 where
  pub bid_later : (o : Opening) (n : ℕ) (b : Bid) → B o n b → B o (n + 1) b
  pub bid_held : (o : Opening) (n : ℕ) (b : Bid) (held : Bool) → B o n b → B o n (with_held held b)
  pub later : (o : Opening) (n : ℕ) (a : Activation) → A o n a → A o (n + 1) a
  pub numbered : (o : Opening) (n k : ℕ) (a : Activation) → A o n a → A o n (arrived k a)

module _ (B : Opening → ℕ → Bid → Type 0) (A : Opening → ℕ → Activation → Type 0) where
  abbrev pub AllTrades : Figures → Type 0
  AllTrades f = AllBids (B f.opening f.parties) f.bids × AllByRecursion (A f.opening f.parties) f.activations

  -- what a call brings in
  abbrev pub Brings : Entry → Figures → Type 0
  Brings (BidAccepted offer receipt) f = B f.opening f.parties (bid_of (f.bids.given + 1) offer)
  Brings (Activated hour direction first last receipt energy) f = (b : Bid) × (standing_with receipt f.bids ≡ Some b) × (B f.opening f.parties b → A f.opening f.parties (listed_of b hour first last))
  Brings (Special a energy) f = A f.opening f.parties a
  Brings _ f = Unit

  module _ (stays : Stays B A) where
    one_more : (f : Figures) (a : Activation) → A f.opening f.parties a → AllByRecursion (A f.opening f.parties) f.activations → AllByRecursion (A f.opening f.parties) (with_activation a f.activations)
    unfolding with_activation
    one_more f a new old =
        let n : ℕ = length f.activations in all_placed (lex_order activation_key) (A f.opening f.parties) f.activations (arrived n a) (stays.numbered f.opening f.parties n a new) old

    pub trades_after : (e : Entry) (f : Figures) → Brings e f → AllTrades f → AllTrades (after e f)
    trades_after (Entered p) f new t =
        let bid = stays.bid_later f.opening f.parties in
        ((All-weaker _ _ bid f.bids.up t.0.0, All-weaker _ _ bid f.bids.down t.0.1), All-weaker _ _ (stays.later f.opening f.parties) f.activations t.1)
    trades_after (BidAccepted offer receipt) f new t = (all_added (B f.opening f.parties) offer f.bids new t.0, t.1)
    trades_after (Withdrawn receipt) f new t = (all_dropped _ receipt f.bids t.0, t.1)
    trades_after (Hold receipt held) f new t = (all_marked _ (stays.bid_held f.opening f.parties) receipt held f.bids t.0, t.1)
    trades_after (Activated hour direction first last receipt energy) f new t = (
      all_taken _ (standing_with receipt f.bids) f.bids t.0,
      subst (λ o. AllByRecursion (A f.opening f.parties) (with_listed o hour first last f.activations)) (sym new.1)
          (one_more f (listed_of new.0 hour first last) (new.2 (with_receipt_lem (B f.opening f.parties) receipt f.bids new.0 t.0 new.1).0) t.1),
    )
    trades_after (Special a energy) f new t = (t.0, one_more f a new t.1)
    trades_after _ f new t = t
