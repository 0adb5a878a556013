-- A field of what variables hold depends on the bytes of certain variables only: two maps that
-- agree on them have it alike.
use Rattle.std.proofs.Common.{◌≡◌, ℕ, ◌<◌, ◌+◌, ◌==◌, zero, suc, List, []}
use Rattle.std.proofs.Common.{filter_map, find, Option, option_map, unwrap_or, refl, ap, arith}
use Rattle.std.specs.Prelude.{nat_lt, option_and_then}
use Rattle.std.specs.List.{range_with_len}
use Rattle.bench_model.specs.Boards.{BoardValue}
use Rattle.reference_machine.specs.Order.{in_order}
use Rattle.reference_machine.specs.declared.snapshot.StagedPair.{StagedPair}
use Rattle.stored_vars.specs.Holds.{bytes_in, claim_of, device_of, factory_state, indications_of}
use Rattle.stored_vars.specs.Holds.{last_result_of, last_staged_of, pairs_of, progress_of}
use Rattle.stored_vars.specs.Holds.{staged_of}
use Rattle.stored_vars.specs.Last.{last_in}
use Rattle.stored_vars.specs.Numbers.{number_in, pair_in}
use Rattle.stored_vars.specs.Progress.{progress_in}
use Rattle.stored_vars.specs.Records.{record_in, state_in}
use Rattle.stored_vars.specs.Stands.{units_kept}
use Rattle.stored_vars.specs.declared.claim.DevRec.{DevRec}
use Rattle.stored_vars.specs.declared.progress.ProgressEntry.{ProgressEntry}
use Rattle.stored_vars.specs.declared.variable.StoredVar.TheVariants.{Device, Progress, Serial}
use Rattle.stored_vars.specs.declared.variable.StoredVar.TheVariants.{Stage, OsIndications}
use Rattle.stored_vars.specs.declared.variable.StoredVar.TheVariants.{CapsuleLast}
use Rattle.var_log.specs.Changes.{Variables}

pub device_alike : (board : BoardValue) (new old : Variables) (d : ℕ)
    → bytes_in new (Device d) ≡ bytes_in old (Device d)
    → device_of board new d ≡ device_of board old d
device_alike board new old d e =
    ap (λ b. unwrap_or (option_and_then state_in b) (factory_state board d)) e

pub claim_alike : (new old : Variables) (d : ℕ)
    → bytes_in new (Device d) ≡ bytes_in old (Device d) → claim_of new d ≡ claim_of old d
claim_alike new old d e =
    ap (λ b. option_and_then (λ (r : DevRec). r.claim) (option_and_then (record_in d) b)) e

pub last_alike : (new old : Variables) → bytes_in new CapsuleLast ≡ bytes_in old CapsuleLast
    → last_result_of new ≡ last_result_of old
last_alike new old e = ap (option_and_then last_in) e

pub serial_alike : (new old : Variables) → bytes_in new Serial ≡ bytes_in old Serial
    → last_staged_of new ≡ last_staged_of old
serial_alike new old e = ap (λ b. unwrap_or (option_and_then number_in b) 0) e

pub asked_alike : (new old : Variables) → bytes_in new OsIndications ≡ bytes_in old OsIndications
    → indications_of new ≡ indications_of old
asked_alike new old e = ap (λ b. unwrap_or (option_and_then number_in b) 0) e

pub entries_alike : (new old : Variables) → bytes_in new Progress ≡ bytes_in old Progress
    → progress_of new ≡ progress_of old
entries_alike new old e = ap (λ b. unwrap_or (option_and_then progress_in b) []) e

pub units_alike : (new old : Variables) (serial : ℕ) → progress_of new ≡ progress_of old
    → units_kept new serial ≡ units_kept old serial
units_alike new old serial e =
    ap (λ (l : List ProgressEntry). option_map (λ (x : ProgressEntry). x.units)
    (find (λ (x : ProgressEntry). x.serial == serial) l)) e

-- a range goes through what is below its end
mapped_alike : {X : Type 0} (f g : ℕ → Option X) (k n : ℕ)
    → ((j : ℕ) → j < k + n → f j ≡ g j)
    → filter_map f (range_with_len k n) ≡ filter_map g (range_with_len k n)
mapped_alike f g k zero all = refl
mapped_alike f g k (suc n) all =
    let here : f k ≡ g k = all k (omega arith) in
    let rest : filter_map f (range_with_len (k + 1) n) ≡ filter_map g (range_with_len (k + 1) n) =
    mapped_alike f g (k + 1) n (λ j h. all j (omega arith)) in
    rw (here, rest) refl

pub pairs_alike : (new old : Variables)
    → ((k : ℕ) → k < 8 → bytes_in new (Stage k) ≡ bytes_in old (Stage k))
    → pairs_of new ≡ pairs_of old
pairs_alike new old e =
    mapped_alike (λ k. option_and_then pair_in (bytes_in new (Stage k)))
    (λ k. option_and_then pair_in (bytes_in old (Stage k))) 0 8
    (λ j h. ap (option_and_then pair_in) (e j (omega arith)))

pub staged_alike : (new old : Variables)
    → ((k : ℕ) → k < 8 → bytes_in new (Stage k) ≡ bytes_in old (Stage k))
    → staged_of new ≡ staged_of old
staged_alike new old e =
    ap (in_order (λ (a b : StagedPair). nat_lt a.serial b.serial)) (pairs_alike new old e)
