-- The batches of requests leave the variables of the machine after them: the capsule files are
-- asked for, and a delivery by memory is staged.
use Rattle.std.proofs.Common.{◌≡◌, ℕ, zero, suc, ◌+◌, ◌-◌, ◌<◌, ◌≤◌, ◌^◌, ◌==◌, Bool, true, false}
use Rattle.std.proofs.Common.{cond, List, [], ◌∷◌, ◌++◌, filter_map, find, length, map, Option}
use Rattle.std.proofs.Common.{Some}
use Rattle.std.proofs.Common.{None, option_map, unwrap_or, refl, sym, ap, ◌∙◌, subst, arith, nat_lt}
use Rattle.std.proofs.Common.{append-nil, inl, inr}
use Rattle.std.specs.List.{AllByRecursion, cons_option, range_with_len}
use Rattle.std.specs.Prelude.{bit_or, is_none, nat_le, option_and_then}
use Rattle.std.proofs.lemmas.Bool.{cases_eq, eq-eqb, lt-leb, ne_eqb}
use Rattle.bench_model.specs.Boards.{IsBoard}
use Rattle.reference_machine.specs.Events.{signalled, with_staged}
use Rattle.reference_machine.specs.Machine.{Machine}
use Rattle.reference_machine.specs.Order.{in_order}
use Rattle.reference_machine.specs.declared.snapshot.StagedPair.{StagedPair}
use Rattle.reference_machine.proofs.Apart.{all_imply}
use Rattle.reference_machine.proofs.Ordered.{all_ordered, ordered_length}
use Rattle.stored_vars.specs.Holds.{bytes_in, indications_of, last_staged_of, pairs_of, staged_at}
use Rattle.stored_vars.specs.Holds.{staged_of}
use Rattle.stored_vars.specs.Numbers.{number_bytes, number_in, pair_bytes, pair_in}
use Rattle.stored_vars.specs.Stands.{Holds}
use Rattle.stored_vars.specs.declared.variable.StoredVar.TheVariants.{OsIndications, Progress}
use Rattle.stored_vars.specs.declared.variable.StoredVar.TheVariants.{Stage}
use Rattle.stored_vars.specs.declared.variable.StoredVar.TheVariants as var
use Rattle.stored_vars.proofs.Alike.{asked_alike, entries_alike, serial_alike}
use Rattle.stored_vars.proofs.Alike.{staged_alike, units_alike}
use Rattle.stored_vars.proofs.Frames.{AreVariables, Edit, change_of, platforms_after, read_after}
use Rattle.stored_vars.proofs.Frames.Edit.{Sets}
use Rattle.stored_vars.proofs.Kept.{stage_within, units_stay}
use Rattle.stored_vars.proofs.OtherLaws.{number_again, pair_again}
use Rattle.stored_vars.proofs.Sorting.{all_unordered, ordered_last}
use Rattle.update_inbox.specs.Batches.{signal_batch}
use Rattle.update_inbox.specs.Staging.{batch_of_next, free_stage, next_delivery}
use Rattle.update_inbox.specs.Staging.{stage_batch}
use Rattle.var_log.specs.Changes.{Variables, after}

-- ---- the capsule files are asked for

bit_set : (t : Bool) (x : ℕ) → x ≡ cond t 4 0 → bit_or x 4 ≡ 4
bit_set true x e = ap (λ n. bit_or n 4) e
bit_set false x e = ap (λ n. bit_or n 4) e

pub signal_holds : (variables : Variables) (m : Machine) → IsBoard m.board → Holds variables m
    → Holds (after variables (signal_batch variables)) (signalled m)
signal_holds variables m is h =
    let value : List ℕ = number_bytes (bit_or (indications_of variables) 4) in
    let es : List Edit = Sets OsIndications value ∷ [] in
    let new : Variables = after variables (map change_of es) in
    let within : AreVariables es = (refl, tt) in
    let units = units_stay variables m es is within (refl, tt) h in
    let four : value ≡ number_bytes 4 =
    ap number_bytes (bit_set m.is_signalled (indications_of variables) h.asked) in
    record {
      devices = units.devices;
      claims = units.claims;
      results = units.results;
      greatest = units.greatest;
      last = units.last;
      staged = staged_alike new variables
          (λ k low. read_after variables es (Stage k) within (stage_within k low)) ∙ h.staged;
      serial = serial_alike new variables (read_after variables es var.Serial within refl)
          ∙ h.serial;
      asked = ap (λ b. unwrap_or (option_and_then number_in b) 0)
          (read_after variables es OsIndications within refl ∙ ap Some four)
          ∙ ap (λ o. unwrap_or o 0) (number_again 4 (omega arith));
      progress = λ s.
          units_alike new variables s
          (entries_alike new variables (read_after variables es Progress within refl))
          ∙ h.progress s;
      others = platforms_after variables es within h.others;
    }

-- ---- a free variable

-- where no number of a range is free, each gives an item
pub full : {X : Type 0} (f : ℕ → Option X) (a n : ℕ)
    → find (λ k. is_none (f k)) (range_with_len a n) ≡ None
    → length (filter_map f (range_with_len a n)) ≡ n
full f a zero h = refl
full {X} f a (suc n) h = by_first (f a) refl h (full f (a + 1) n)
  where
    by_first : (o : Option X) → f a ≡ o
        → cond (is_none o) (Some a) (find (λ k. is_none (f k)) (range_with_len (a + 1) n)) ≡ None
        → (find (λ k. is_none (f k)) (range_with_len (a + 1) n) ≡ None
        → length (filter_map f (range_with_len (a + 1) n)) ≡ n)
        → length (cons_option o (filter_map f (range_with_len (a + 1) n))) ≡ suc n
    by_first None e k rest = absurd cc
    by_first (Some x) e k rest = ap suc (rest k)

-- a number that is found is free
pub record IsFree {X : Type 0} (f : ℕ → Option X) (a n k : ℕ) : Type 0 where
  from : a ≤ k
  below : k < a + n
  free : f k ≡ None

pub is_free : {X : Type 0} (f : ℕ → Option X) (a n k : ℕ)
    → find (λ j. is_none (f j)) (range_with_len a n) ≡ Some k → IsFree f a n k
is_free f a zero k h = absurd cc
is_free {X} f a (suc n) k h = by_first (f a) refl h (is_free f (a + 1) n k)
  where
    by_first : (o : Option X) → f a ≡ o
        → cond (is_none o) (Some a) (find (λ j. is_none (f j)) (range_with_len (a + 1) n)) ≡ Some k
        → (find (λ j. is_none (f j)) (range_with_len (a + 1) n) ≡ Some k → IsFree f (a + 1) n k)
        → IsFree f a (suc n) k
    by_first None e q rest =
        let same : a ≡ k = cc in
        record {
          from = omega (arith, same);
          below = omega (arith, same);
          free = ap f (sym same) ∙ e;
        }
    by_first (Some x) e q rest =
        let later = rest q in
        record {
          from = omega (arith, later.from);
          below = omega (arith, later.below);
          free = later.free;
        }

-- ---- one more among what comes of a range

record Puts {X : Type 0} (x : X) (old new : List X) : Type 0 where
  front : List X
  back : List X
  was : old ≡ front ++ back
  is : new ≡ front ++ x ∷ back

put_at : {X : Type 0} (f g : ℕ → Option X) (k : ℕ) (x : X) → f k ≡ None → g k ≡ Some x → (a n : ℕ)
    → ((j : ℕ) → j < a + n → (k ≡ j → ⊥) → g j ≡ f j) → a ≤ k → k < a + n
    → Puts x (filter_map f (range_with_len a n)) (filter_map g (range_with_len a n))
put_at f g k x none some a zero same from below = absurd (omega arith)
put_at {X} f g k x none some a (suc n) same from below = elim (cases_eq a k) [
  | inl here ↦ record {
    front = [];
    back = filter_map f (range_with_len (a + 1) n);
    was = ap (λ o. cons_option o (filter_map f (range_with_len (a + 1) n))) (ap f here ∙ none);
    is = ap (λ o. cons_option o (filter_map g (range_with_len (a + 1) n))) (ap g here ∙ some)
        ∙ ap (λ l. x ∷ l) (behind here (a + 1) n (omega arith) (omega arith));
  }
  | inr apart ↦
      let later = put_at f g k x none some (a + 1) n (λ j low off. same j (omega (arith, low)) off)
      (omega (arith, apart)) (omega arith) in
      record {
        front = cons_option (f a) later.front;
        back = later.back;
        was = ap (cons_option (f a)) later.was ∙ joined (f a) later.front later.back;
        is = ap (λ o. cons_option o (filter_map g (range_with_len (a + 1) n)))
            (same a (omega arith) (λ e. apart (sym e)))
            ∙ ap (cons_option (f a)) later.is ∙ joined (f a) later.front (x ∷ later.back);
      }
]
  where
    joined : (o : Option X) (xs ys : List X) → cons_option o (xs ++ ys) ≡ cons_option o xs ++ ys
    joined None xs ys = refl
    joined (Some y) xs ys = refl

    behind : a ≡ k → (b len : ℕ) → a < b → b + len ≤ a + suc n
        → filter_map g (range_with_len b len) ≡ filter_map f (range_with_len b len)
    behind here b zero low high = refl
    behind here b (suc len) low high =
        let first : g b ≡ f b = same b (omega arith) (λ e. omega (arith, e, here, low)) in
        let rest : filter_map g (range_with_len (b + 1) len)
        ≡ filter_map f (range_with_len (b + 1) len) =
        behind here (b + 1) len (omega arith) (omega arith) in
        ap (λ o. cons_option o (filter_map g (range_with_len (b + 1) len))) first
        ∙ ap (cons_option (f b)) rest

all_front : {X : Type 0} (P : X → Type 0) (xs ys : List X) → AllByRecursion P (xs ++ ys)
    → AllByRecursion P xs × AllByRecursion P ys
all_front P [] ys all = (tt, all)
all_front P (x ∷ xs) ys all =
    let rest = all_front P xs ys all.1 in ((all.0, rest.0), rest.1)

-- ---- a delivery is staged

abbrev order : List StagedPair → List StagedPair
order = in_order (λ (a b : StagedPair). nat_lt a.serial b.serial)

module _ (variables : Variables) (m : Machine) (address : ℕ) (is : IsBoard m.board)
    (room : length m.staged < 8) (serials : m.last_staged < 2 ^ 64 - 1)
    (low : AllByRecursion (λ (p : StagedPair). p.serial ≤ m.last_staged) m.staged)
    (wide : address < 2 ^ 64) (h : Holds variables m) where
  -- the variables keep as many deliveries as the machine has
  count : length (pairs_of variables) < 8
  count =
      let a = ordered_length (λ (p q : StagedPair). nat_lt p.serial q.serial) (pairs_of variables)
      in
      let b = ordered_length (λ (p q : StagedPair). nat_lt p.serial q.serial) m.staged in
      let c = ap length h.staged in
      omega (arith, a, b, c)

  abbrev pair : StagedPair
  pair = record { serial = last_staged_of variables + 1; address = address }

  abbrev edits : ℕ → List Edit
  edits k =
      Sets (Stage k) (pair_bytes pair)
      ∷ Sets var.Serial (number_bytes (last_staged_of variables + 1)) ∷ []

  below : AllByRecursion (λ (p : StagedPair). p.serial < last_staged_of variables + 1)
      (pairs_of variables)
  below =
      all_unordered (λ (p : StagedPair). p.serial < last_staged_of variables + 1)
      (λ (a b : StagedPair). nat_lt a.serial b.serial) (pairs_of variables)
      (subst (AllByRecursion (λ (p : StagedPair). p.serial < last_staged_of variables + 1))
      (sym h.staged)
      (all_ordered (λ (p : StagedPair). p.serial < last_staged_of variables + 1)
      (λ (a b : StagedPair). nat_lt a.serial b.serial) m.staged
      (all_imply (λ (p : StagedPair). p.serial ≤ m.last_staged)
      (λ (p : StagedPair). p.serial < last_staged_of variables + 1)
      (λ p k. omega (arith, k, h.serial)) m.staged low)))

  -- the staged deliveries with the new one
  staged_with : (k : ℕ) → IsFree (staged_at variables) 0 8 k → (new : Variables)
      → ((j : ℕ) → j < 8 → bytes_in new (Stage j)
      ≡ cond (k == j) (Some (pair_bytes pair)) (bytes_in variables (Stage j)))
      → staged_of new
      ≡ order (m.staged ++ record { serial = m.last_staged + 1; address = address } ∷ [])
  staged_with k free new read =
      let puts = put_at (staged_at variables) (staged_at new) k pair free.free
      (ap (option_and_then pair_in)
      (read k free.below
      ∙ ap (λ b. cond b (Some (pair_bytes pair)) (bytes_in variables (Stage k))) (eq-eqb k k refl))
      ∙ pair_again pair (record { serial = omega (arith, h.serial, serials); address = wide })) 0 8
      (λ j within off. ap (option_and_then pair_in)
      (read j within
      ∙ ap (λ b. cond b (Some (pair_bytes pair)) (bytes_in variables (Stage j))) (ne_eqb k j off)))
      (omega arith) free.below in
      let parts = all_front (λ (p : StagedPair). p.serial < last_staged_of variables + 1) puts.front
      puts.back
      (subst (AllByRecursion (λ (p : StagedPair). p.serial < last_staged_of variables + 1)) puts.was
      below) in
      ap order puts.is
      ∙ ordered_last (λ (p : StagedPair). p.serial) pair puts.front puts.back parts.0 parts.1
      ∙ ap (λ l. order l ++ pair ∷ []) (sym puts.was)
      ∙ ap (λ l. l ++ pair ∷ []) h.staged
      ∙ ap (λ n. order m.staged ++ record { serial = n + 1; address = address } ∷ []) h.serial
      ∙ sym (ordered_last (λ (p : StagedPair). p.serial)
      (record { serial = m.last_staged + 1; address = address }) m.staged []
      (all_imply (λ (p : StagedPair). p.serial ≤ m.last_staged)
      (λ (p : StagedPair). p.serial < m.last_staged + 1) (λ p q. omega arith) m.staged low) tt
      ∙ ap (λ l. order l ++ record { serial = m.last_staged + 1; address = address } ∷ [])
      (append-nil m.staged))

  holds_at : (k : ℕ) → IsFree (staged_at variables) 0 8 k
      → Holds (after variables (map change_of (edits k))) (with_staged m address)
  holds_at k free =
      let new : Variables = after variables (map change_of (edits k)) in
      let within : AreVariables (edits k) = (stage_within k free.below, (refl, tt)) in
      let units = units_stay variables m (edits k) is within (refl, (refl, tt)) h in
      record {
        devices = units.devices;
        claims = units.claims;
        results = units.results;
        greatest = units.greatest;
        last = units.last;
        staged = staged_with k free new
            (λ j under. read_after variables (edits k) (Stage j) within (stage_within j under));
        serial = ap (λ b. unwrap_or (option_and_then number_in b) 0)
            (read_after variables (edits k) var.Serial within refl)
            ∙ ap (λ o. unwrap_or o 0)
            (number_again (last_staged_of variables + 1) (omega (arith, h.serial, serials)))
            ∙ ap (λ n. n + 1) h.serial;
        asked = asked_alike new variables
            (read_after variables (edits k) OsIndications within refl) ∙ h.asked;
        progress = λ s.
            units_alike new variables s
            (entries_alike new variables (read_after variables (edits k) Progress within refl))
            ∙ h.progress s;
        others = platforms_after variables (edits k) within h.others;
      }

  -- the delivery that the batch is of
  by_free : (o : Option ℕ) → free_stage variables ≡ o
      → Holds (after variables (stage_batch address variables)) (with_staged m address)
  by_free None e =
      let all : length (pairs_of variables) ≡ 8 = full (staged_at variables) 0 8 e in
      absurd (omega (arith, all, count))
  by_free (Some k) e =
      let open_is : nat_le (2 ^ 64 - 1) (last_staged_of variables) ≡ false =
      lt-leb (2 ^ 64 - 1) (last_staged_of variables) (omega (arith, h.serial, serials)) in
      let next_is : next_delivery address variables ≡ Some (record { number = k; pair = pair }) =
      ap (λ b. cond b None (option_map (λ (j : ℕ). record { number = j; pair = pair })
      (free_stage variables))) open_is
      ∙ ap (option_map (λ (j : ℕ). record { number = j; pair = pair })) e in
      subst (λ o. Holds (after variables (batch_of_next o)) (with_staged m address)) (sym next_is)
      (holds_at k (is_free (staged_at variables) 0 8 k e))

  pub stage_holds : Holds (after variables (stage_batch address variables)) (with_staged m address)
  stage_holds = by_free (free_stage variables) refl
