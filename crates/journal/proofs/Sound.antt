-- A lawful journal is sound: where no row refuses a call, its acceptance guarantees what the law of the sums needs.
use Rattle.std.proofs.Common.{List, [], ◌∷◌, is_some, arith}
use Rattle.std.specs.List.{AllByRecursion}
use Rattle.market.specs.declared.words.Bid.{Bid}
use Rattle.ladder.specs.Ladder.{bids_of}
use Rattle.ladder.proofs.Keeps.{is_first_free}
use Rattle.journal.specs.Figures.{Figures, times_of}
use Rattle.journal.specs.Journal.{Entry, Entered, BidAccepted, Activated, Special, Reading, Settled, figures}
use Rattle.journal.specs.Refused.{first_of, has_place, is_settled, is_complete}
use Rattle.journal.specs.Lawful.{Lawful}
use Rattle.journal.specs.Sound.{SoundEntry}
use Rattle.journal.specs.Sums.{LawfulIsSound}
use Rattle.journal.proofs.Accepted.{bidding, activating, specially, reading, settling, none_of}

anything : (bids : List Bid) → AllByRecursion (λ b. Unit {0}) bids
anything [] = tt
anything (b ∷ bids) = (tt, anything bids)

pub sound_entry : (e : Entry) (f : Figures) → Lawful e f → SoundEntry e f
sound_entry (Entered p) f l = (l.0, l.1.1)
sound_entry (BidAccepted offer receipt) f l =
    let s = bidding (times_of f) offer _ receipt l.1.0 in
    (l.0, (record { in_the_day = s.in_the_day; entered = s.entered; enough = s.enough; price_within = s.price_within; side = s.side }, l.1.1))
sound_entry (Activated hour direction first last receipt energy) f l =
    let t = l.1.1 in
    let free = is_first_free (λ b. Unit {0}) hour.0 (bids_of direction f.bids) t.bid (anything (bids_of direction f.bids)) t.is_first_free in
    let minutes = activating (times_of f) hour.0 first last (has_place f) (is_some (first_of f hour.0 direction)) l.1.0 in
    (l.0, record { bid = t.bid; stands = t.stands; of_the_hour = free.1; of_direction = t.of_direction; lasts = omega (arith, minutes.0); answered = t.answered })
sound_entry (Special a energy) f l = (l.0, (l.1.1, (specially (times_of f) a (has_place f) l.1.0).0, l.1.2))
sound_entry (Reading h p meter x) f l = (l.0, none_of (f.settled h) (reading (times_of f) h p x (is_settled f h) l.1).1)
sound_entry (Settled h m) f l =
    let ok = settling (times_of f) h (is_settled f h) (is_complete f h) l.1.0 in (l.0, (none_of (f.settled h) ok.1, ok.0, l.1.1))
sound_entry _ f l = (l.0, tt)

pub lawful_is_sound : LawfulIsSound
lawful_is_sound opening [] l = l.spots
lawful_is_sound opening (e ∷ journal) l = (lawful_is_sound opening journal l.0, sound_entry e (figures opening journal) l.1)
