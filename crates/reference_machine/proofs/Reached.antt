-- The laws of every machine that is reached.
use Rattle.std.proofs.Common.{◌≡◌, ◌<◌, ◌≤◌, ◌+◌, ◌^◌, ℕ, inl, inr, List, length, map, arith, refl}
use Rattle.std.proofs.Common.{sym, subst, add-one}
use Rattle.bench_model.specs.Boards.{BoardValue, IsBoard}
use Rattle.reference_machine.specs.Boots.{boot_at}
use Rattle.reference_machine.specs.Formats.{Formats}
use Rattle.reference_machine.specs.Laws.{IsReached, Grows, OpenIsLast, AttemptsReachFloor, AreApart}
use Rattle.reference_machine.specs.Laws.{StandInOrder, HaveDistinctKeys, SpentFilesHaveProgress}
use Rattle.reference_machine.specs.Laws.{IsWithinLimits, SerialsAreGiven, KeepsLimits, TellNoFault}
use Rattle.reference_machine.specs.Events.{InputBytes, Run, Step, trace_of, machine_after}
use Rattle.reference_machine.specs.TraceValues.{EntryValue}
use Rattle.reference_machine.specs.Machine.{Machine, fresh}
use Rattle.reference_machine.proofs.Apart.{apart_keeps}
use Rattle.reference_machine.proofs.Bounds.{Limited, limited_keeps, within_limits, serials_given}
use Rattle.reference_machine.proofs.Once.{Quiet, run_once, run_is}
use Rattle.reference_machine.proofs.Going.{Sound, sound_of, boot_going}
use Rattle.reference_machine.proofs.Keeping.{Keeps, reached_keeps}
use Rattle.reference_machine.proofs.Growing.{event_grows, boot_grows}
use Rattle.reference_machine.proofs.Keyed.{Orderly, orderly_keeps}
use Rattle.reference_machine.proofs.Keys.{in_order, distinct_keys}
use Rattle.reference_machine.proofs.Lists.{rests_last, pends_last, reach_floor}
use Rattle.reference_machine.proofs.Moving.{bound_grows, lines_tell}
use Rattle.reference_machine.proofs.Short.{board_keeps, boot_short}
use Rattle.reference_machine.specs.Moves.{closed_since, move_bound}
use Rattle.reference_machine.specs.Stops.{IsHeldEnd}
use Rattle.reference_machine.specs.declared.event.Event.{Event}
use Rattle.reference_machine.specs.declared.unit.End.{End}

sound_keeps : (f : Formats) → Keeps f Sound
sound_keeps f = record {
  fails = λ m p. p;
  later = λ m moment p. p;
  puts = λ m file bytes e p. p;
  asks = λ m p. p;
  lays = λ m address bytes p. p;
  stages = λ m address e p. p;
  cold = λ m p. p;
  warm = λ m p. p;
  boots = λ m h j held p. sound_of (boot_at f m h j).machine (boot_at f m h j).left
      (boot_going f m h j held p);
}

pub reached_sound : (f : Formats) (board : BoardValue) (m : Machine) → IsReached f board m → Sound m
reached_sound f board m r =
    reached_keeps f Sound (sound_keeps f) board m (inl (record { none = tt; above = tt })) r

last_of : (m : Machine) → Sound m → OpenIsLast m.list
last_of m (inl r) = rests_last m.board m.list r
last_of m (inr p) = pends_last m.board m.list p

floor_of_attempts : (m : Machine) → Sound m → AttemptsReachFloor m.board m.list
floor_of_attempts m (inl r) = reach_floor m.board m.list r.above
floor_of_attempts m (inr p) = reach_floor m.board m.list p.above

pub open_last : (f : Formats) (board : BoardValue) (m : Machine) → IsReached f board m
    → OpenIsLast m.list
open_last f board m r = last_of m (reached_sound f board m r)

pub attempts : (f : Formats) (board : BoardValue) (m : Machine) → IsReached f board m
    → AttemptsReachFloor m.board m.list
attempts f board m r = floor_of_attempts m (reached_sound f board m r)

pub apart : (f : Formats) (board : BoardValue) (m : Machine) → IsReached f board m → AreApart m
apart f board m r =
    reached_keeps f AreApart (apart_keeps f) board m
    (record { names = tt; files = tt; last_file = tt; staged = tt; last_staged = tt }) r

-- a fresh board is quiet
pub fresh_quiet : (board : BoardValue) → Quiet (fresh board)
fresh_quiet board = record { rests = record { none = tt; above = tt }; well = refl }

pub one : (f : Formats) (bytes_of : InputBytes) (board : BoardValue) (events : List Event)
    (told : List EntryValue) (m : Machine) → Run f bytes_of (fresh board) events told m
    → TellNoFault told
    → (told ≡ trace_of f bytes_of (fresh board) events)
    × (m ≡ machine_after f bytes_of (fresh board) events)
one f bytes_of board events told m r h =
    run_once f bytes_of (fresh board) events told m (fresh_quiet board) r h

pub some : (f : Formats) (bytes_of : InputBytes) (board : BoardValue) (events : List Event)
    → Run f bytes_of (fresh board) events (trace_of f bytes_of (fresh board) events)
    (machine_after f bytes_of (fresh board) events)
some f bytes_of board events = run_is f bytes_of (fresh board) events

-- the units of each delivery stand in order
pub orderly : (f : Formats) (board : BoardValue) (m : Machine) → IsReached f board m → Orderly m
orderly f board m r =
    let start : Orderly (fresh board) = record {
      sound = inl (record { none = tt; above = tt });
      apart = record { names = tt; files = tt; last_file = tt; staged = tt; last_staged = tt };
      keyed = record { gapless = tt; waiting = tt; below = tt };
    } in
    reached_keeps f Orderly (orderly_keeps f) board m start r

pub stand_in_order : (f : Formats) (board : BoardValue) (m : Machine) → IsReached f board m
    → StandInOrder m.list
stand_in_order f board m r = in_order m.list (orderly f board m r).keyed.gapless

pub keys_apart : (f : Formats) (board : BoardValue) (m : Machine) → IsReached f board m
    → HaveDistinctKeys m.list
keys_apart f board m r = distinct_keys m.list (orderly f board m r).keyed.gapless

-- files, staged deliveries and kept serials are within their limits
pub limited : (f : Formats) (board : BoardValue) (m : Machine) → IsReached f board m → Limited m
limited f board m r =
    let start : Limited (fresh board) = record {
      filed = record {
        sound = inl (record { none = tt; above = tt });
        apart = record { names = tt; files = tt; last_file = tt; staged = tt; last_staged = tt };
        spends = tt;
        given = tt;
      };
      files = omega arith;
      staged = omega arith;
      in_progress = record { once = tt; few = omega arith; below = tt; ready = tt };
    } in
    reached_keeps f Limited (limited_keeps f) board m start r

pub spends : (f : Formats) (board : BoardValue) (m : Machine) → IsReached f board m
    → SpentFilesHaveProgress m
spends f board m r = (limited f board m r).filed.spends

pub within : (f : Formats) (board : BoardValue) (m : Machine) → IsReached f board m
    → IsWithinLimits m
within f board m r = within_limits m (limited f board m r)

pub given : (f : Formats) (board : BoardValue) (m : Machine) → IsReached f board m
    → SerialsAreGiven m
given f board m r = serials_given m (limited f board m r) (orderly f board m r).keyed

-- a boot of a reached machine is short
pub same_board : (f : Formats) (board : BoardValue) (m : Machine) → IsReached f board m
    → m.board ≡ board
same_board f board m r =
    reached_keeps f (λ (x : Machine). x.board ≡ board) (board_keeps f board) board m refl r

pub short : (f : Formats) (board : BoardValue) (m : Machine) → KeepsLimits f → IsBoard board
    → IsReached f board m → (h : End) (j : ℕ) → (boot_at f m h j).report.steps < 2 ^ 20
short f board m limits is r h j =
    let few : length board.devices ≤ 16 = omega (arith, is.devices) in
    boot_short f limits m h j
    (subst (λ (b : BoardValue). length b.devices ≤ 16) (sym (same_board f board m r)) few)
    (within f board m r)

-- the lines of a boot, and the bound on its moves
pub lines_told : (f : Formats) (board : BoardValue) (m : Machine) → IsReached f board m
    → (h : End) (j : ℕ) → IsHeldEnd h
    → map (λ l. l.key) (boot_at f m h j).report.lines
    ≡ map (λ e. e.key) (closed_since m.list (boot_at f m h j).machine.list)
lines_told f board m r h j held = lines_tell f m h j held (reached_sound f board m r)

pub moves_grow : (f : Formats) (board : BoardValue) (m : Machine) → IsReached f board m
    → (h : End) (j : ℕ) → IsHeldEnd h
    → move_bound f m (boot_at f m h j) ≤ move_bound f m (boot_at f m h (j + 1))
moves_grow f board m r h j held =
    subst (λ (n : ℕ). move_bound f m (boot_at f m h j) ≤ move_bound f m (boot_at f m h n))
    (sym (add-one j)) (bound_grows f m h j held (reached_sound f board m r))

-- the list grows by each event, and by the steps of a boot
pub events_grow : (f : Formats) (bytes_of : InputBytes) (board : BoardValue) (m : Machine)
    → IsReached f board m → (event : Event) (entry : EntryValue) (new : Machine)
    → Step f bytes_of m event entry new → Grows m.list new.list
events_grow f bytes_of board m r event entry new s =
    event_grows f bytes_of m event entry new (reached_sound f board m r) s

pub boots_grow : (f : Formats) (board : BoardValue) (m : Machine) → IsReached f board m
    → (h : End) (j : ℕ) → Grows m.list (boot_at f m h j).machine.list
boots_grow f board m r h j = boot_grows f m h j (reached_sound f board m r)
