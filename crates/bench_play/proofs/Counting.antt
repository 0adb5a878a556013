-- Orders and faults, one event more.
use Rattle.std.proofs.Common.{◌≡◌, ℕ, ◌+◌, ◌≤◌, List, [], ◌∷◌, ◌++◌, refl, sym, ap, ◌∙◌, subst}
use Rattle.std.proofs.Common.{arith, append_assoc, append-nil, Option, None, Some}
use Rattle.std.proofs.Common.{◌<◌, get_or, length, take}
use Rattle.bench_play.proofs.Running.{take_with}
use Rattle.bench_model.specs.Bench.{BenchValue, Orders}
use Rattle.bench_model.specs.declared.orders.Order.{Order}
use Rattle.bench_model.specs.declared.orders.Ordered.{Ordered}
use Rattle.cu_base.specs.Causes.{RoseBy}
use Rattle.reference_machine.specs.TraceValues.{EntryValue}
use Rattle.reference_machine.specs.declared.event.Event.{Event}
use Rattle.bench_play.specs.Counted.{AreCounted, ByOrder, GivesNone, IsOrdered, IsTold, faults_told}
use Rattle.bench_play.specs.Counted.{order_of, orders_after}

-- the counts only rose
pub counted_later : (at since : ℕ) (events : List Event) (told : List EntryValue)
    (given : List Ordered) (now later : ℕ) → now ≤ later → AreCounted at since events told given now
    → AreCounted at since events told given later
counted_later at since [] [] [] now later le c = omega (arith, c)
counted_later at since [] [] (o ∷ given) now later le c = c
counted_later at since [] (t ∷ told) given now later le c = c
counted_later at since (event ∷ events) [] given now later le c = c
counted_later at since (event ∷ events) (t ∷ told) given now later le c =
    by_order (order_of event) given c
    (λ a s g. counted_later a s events told g now later le)
  where
    by_order : (o : Option Order) (given : List Ordered)
        → ByOrder o given
        (λ o rest. RoseBy since at o.flash_faults
        × AreCounted o.flash_faults (faults_told t) events told rest now)
        (AreCounted at (since + faults_told t) events told given now)
        → ((a s : ℕ) (g : List Ordered) → AreCounted a s events told g now
        → AreCounted a s events told g later)
        → ByOrder o given
        (λ o rest. RoseBy since at o.flash_faults
        × AreCounted o.flash_faults (faults_told t) events told rest later)
        (AreCounted at (since + faults_told t) events told given later)
    by_order None given c rest = rest at (since + faults_told t) given c
    by_order (Some order) [] c rest = c
    by_order (Some order) (o ∷ given) c rest = (
      c.0,
      (c.1.0, rest o.flash_faults (faults_told t) given c.1.1),
    )

-- the orders of one event
abbrev pub order_list : Option Order → BenchValue → List Ordered
order_list None b = []
order_list (Some order) b = record {
  order = order;
  flash_faults = b.counts.flash_faults;
  volume_faults = b.counts.volume_faults;
} ∷ []

module _ (event : Event) (t : EntryValue) (old : BenchValue) (now : ℕ)
    (rose : RoseBy (faults_told t) old.counts.flash_faults now) where
  last_one : (at since : ℕ) (o : Option Order) → RoseBy since at old.counts.flash_faults
      → ByOrder o (order_list o old)
      (λ o rest. RoseBy since at o.flash_faults
      × AreCounted o.flash_faults (faults_told t) [] [] rest now)
      (AreCounted at (since + faults_told t) [] [] (order_list o old) now)
  last_one at since None c = omega (arith, c, rose)
  last_one at since (Some order) c = (refl, (c, rose))

  -- one event more
  counted_more : (at since : ℕ) (events : List Event) (told : List EntryValue)
      (given : List Ordered)
      → AreCounted at since events told given old.counts.flash_faults
      → AreCounted at since (events ++ event ∷ []) (told ++ t ∷ [])
      (given ++ order_list (order_of event) old) now
  counted_more at since [] [] [] c = last_one at since (order_of event) c
  counted_more at since [] [] (o ∷ given) c = absurd c
  counted_more at since [] (u ∷ told) given c = absurd c
  counted_more at since (e ∷ events) [] given c = absurd c
  counted_more at since (e ∷ events) (u ∷ told) given c =
      by_order (order_of e) given c (λ a s g. counted_more a s events told g)
    where
      more : List Ordered
      more = order_list (order_of event) old

      by_order : (o : Option Order) (given : List Ordered)
          → ByOrder o given
          (λ o rest. RoseBy since at o.flash_faults
          × AreCounted o.flash_faults (faults_told u) events told rest old.counts.flash_faults)
          (AreCounted at (since + faults_told u) events told given old.counts.flash_faults)
          → ((a s : ℕ) (g : List Ordered)
          → AreCounted a s events told g old.counts.flash_faults
          → AreCounted a s (events ++ event ∷ []) (told ++ t ∷ []) (g ++ more) now)
          → ByOrder o (given ++ more)
          (λ o rest. RoseBy since at o.flash_faults
          × AreCounted o.flash_faults (faults_told u) (events ++ event ∷ []) (told ++ t ∷ []) rest
          now)
          (AreCounted at (since + faults_told u) (events ++ event ∷ []) (told ++ t ∷ [])
          (given ++ more) now)
      by_order None given c rest = rest at (since + faults_told u) given c
      by_order (Some order) [] c rest = absurd c
      by_order (Some order) (o ∷ given) c rest =
          (c.0, (c.1.0, rest o.flash_faults (faults_told u) given c.1.1))

given_after : (o : Option Order) (old : BenchValue)
    → (orders_after o old).given ≡ old.orders.given ++ order_list o old
given_after None old = sym (append-nil old.orders.given)
given_after (Some order) old = refl

pub ordered_none : (start : BenchValue) → IsOrdered [] [] start start
ordered_none start = record {
  given = [];
  is = sym (append-nil start.orders.given);
  counted = omega arith;
}

pub ordered_more : (events : List Event) (told : List EntryValue) (event : Event) (t : EntryValue)
    (start old new : BenchValue) → IsOrdered events told start old → IsTold event t old new
    → IsOrdered (events ++ event ∷ []) (told ++ t ∷ []) start new
ordered_more events told event t start old new p is = record {
  given = p.given ++ order_list (order_of event) old;
  is = ap (λ (o : Orders). o.given) is.orders ∙ given_after (order_of event) old
      ∙ ap (λ (l : List Ordered). l ++ order_list (order_of event) old) p.is
      ∙ append_assoc start.orders.given p.given (order_list (order_of event) old);
  counted = counted_more event t old new.counts.flash_faults is.rose start.counts.flash_faults 0
      events told p.given p.counted;
}

-- a call that gave no order
pub ordered_still : (events : List Event) (told : List EntryValue) (start old new : BenchValue)
    → IsOrdered events told start old → GivesNone old new → IsOrdered events told start new
ordered_still events told start old new p is = record {
  given = p.given;
  is = ap (λ (o : Orders). o.given) is.orders ∙ p.is;
  counted = counted_later start.counts.flash_faults 0 events told p.given
      old.counts.flash_faults new.counts.flash_faults is.later p.counted;
}

-- how much room an event takes
pub room_after : (event : Event) (t : EntryValue) (old new : BenchValue) → IsTold event t old new
    → old.orders.room ≤ new.orders.room + 1
room_after event t old new is =
    subst (λ (o : Orders). old.orders.room ≤ o.room + 1) (sym is.orders) (by_order (order_of event))
  where
    by_order : (o : Option Order) → old.orders.room ≤ (orders_after o old).room + 1
    by_order None = omega arith
    by_order (Some order) = omega arith

-- the same in a loop over the events
pub ordered_next : (events : List Event) (i : ℕ) (d : Event) → d ≡ get_or events i d
    → i < length events → (told : List EntryValue) (t : EntryValue) (start old new : BenchValue)
    → IsOrdered (take i events) told start old → IsTold d t old new
    → IsOrdered (take (i + 1) events) (told ++ t ∷ []) start new
ordered_next events i d is_at lt told t start old new p is =
    subst (λ (es : List Event). IsOrdered es (told ++ t ∷ []) start new)
    (sym (take_with events i d is_at lt))
    (ordered_more (take i events) told d t start old new p is)
