-- What is read off a list of spent units once it has one element more, open or closed.
use Rattle.std.proofs.Common.{◌≡◌, ℕ, zero, suc, ◌+◌, ◌%◌, ◌<◌, ◌≤◌, ◌==◌, Bool, true, false, ◌&&◌}
use Rattle.std.proofs.Common.{◌||◌}
use Rattle.std.proofs.Common.{cond, inl, inr, not, List, [], ◌∷◌, ◌++◌, filter, filter_map, find}
use Rattle.std.proofs.Common.{length, map, max}
use Rattle.std.proofs.Common.{Option, Some, None, option_map, unwrap_or, slice_get, refl, sym, ap}
use Rattle.std.proofs.Common.{◌∙◌, append-nil}
use Rattle.std.proofs.Common.{arith}
use Rattle.std.specs.List.{cons_option, enumerate_from, last_or, list_any, range_with_len}
use Rattle.std.specs.Prelude.{nat_le, option_and_then}
use Rattle.std.proofs.Math.Nat.{mod-add-mod, mod-eq_of_lt, mod-lt, mod_self}
use Rattle.std.proofs.lemmas.Bool.{cases_eq, and_left, and_right, eq-eqb, leb-false, leb-true}
use Rattle.std.proofs.lemmas.Bool.{ne_eqb}
use Rattle.std.proofs.lemmas.List.Elements.{filter-append, filter_map-append}
use Rattle.std.proofs.lemmas.List.Folds.{list_any-append}
use Rattle.bench_model.specs.Boards.{BoardValue}
use Rattle.cu_base.specs.declared.device_state.DevState.{DevState}
use Rattle.cu_base.specs.declared.time.EfiTime.{EfiTime}
use Rattle.cu_base.proofs.Lists.{filter_more}
use Rattle.report_tables.specs.Entries.{greatest}
use Rattle.report_tables.specs.Names.{number_behind}
use Rattle.report_tables.specs.Results.{result_bytes}
use Rattle.reference_machine.specs.Results.{attempt_of, attempt_status, last_attempt, last_numbered}
use Rattle.reference_machine.specs.Results.{last_result, result_at, result_number}
use Rattle.reference_machine.specs.Results.{state_of}
use Rattle.reference_machine.specs.Spent.{Element, Image, Standing, end_of, factory_floor, floor_of}
use Rattle.reference_machine.specs.Spent.{factory_image, image_left, image_of, image_tried}
use Rattle.reference_machine.specs.Spent.{is_closed, left_by}
use Rattle.reference_machine.specs.Spent.{is_of, is_on, is_sealed, sealed_floors, spent}
use Rattle.reference_machine.specs.Spent.{end_in, is_sealed_end, is_standing_open}
use Rattle.reference_machine.specs.Spent.{version_of}
use Rattle.reference_machine.specs.Spent.Standing.{Open, Closed}
use Rattle.reference_machine.specs.declared.snapshot.CapsuleResult.{CapsuleResult}
use Rattle.reference_machine.specs.declared.unit.End.{End}
use Rattle.reference_machine.specs.declared.unit.End.TheVariants.{Refused, Sealed, Kept, Lost}
use Rattle.dev_claims.specs.Units.{floor_after, state_after, version_after}
use Rattle.stored_vars.specs.Last.{last_bytes}
use Rattle.stored_vars.specs.Stands.{greatest_on, result_on}

-- ---- lists

pub filter_last : {X : Type 0} (p : X → Bool) (xs : List X) (x : X) → p x ≡ true
    → filter p (xs ++ x ∷ []) ≡ filter p xs ++ x ∷ []
filter_last p xs x h =
    filter-append p xs (x ∷ []) ∙ ap (λ b. filter p xs ++ cond b (x ∷ []) []) h

pub filter_front : {X : Type 0} (p : X → Bool) (xs : List X) (x : X) → p x ≡ false
    → filter p (xs ++ x ∷ []) ≡ filter p xs
filter_front p xs x h =
    filter-append p xs (x ∷ []) ∙ ap (λ b. filter p xs ++ cond b (x ∷ []) []) h
    ∙ append_none (filter p xs)
  where
    append_none : {X : Type 0} (ys : List X) → ys ++ [] ≡ ys
    append_none [] = refl
    append_none (y ∷ ys) = ap (λ l. y ∷ l) (append_none ys)

last_is : {X : Type 0} (o : Option X) (xs : List X) (x : X) → last_or o (xs ++ x ∷ []) ≡ Some x
last_is o [] x = refl
last_is o (y ∷ ys) x = last_is (Some y) ys x

numbered_last : {X : Type 0} (n : ℕ) (xs : List X) (x : X)
    → enumerate_from n (xs ++ x ∷ []) ≡ enumerate_from n xs ++ (n + length xs, x) ∷ []
numbered_last n [] x = ap (λ k. (k, x) ∷ []) (omega arith)
numbered_last n (y ∷ ys) x =
    ap (λ l. (n, y) ∷ l) (numbered_last (n + 1) ys x)
    ∙ ap (λ k. (n, y) ∷ (enumerate_from (n + 1) ys ++ (k, x) ∷ [])) (omega arith)

greatest_last : (n : ℕ) (ms : List ℕ) (m : ℕ) → greatest n (ms ++ m ∷ []) ≡ max (greatest n ms) m
greatest_last n [] m = omega arith
greatest_last n (k ∷ ks) m =
    let rest : greatest n (ks ++ m ∷ []) ≡ max (greatest n ks) m = greatest_last n ks m in
    omega (arith, rest)

map_last : {X Y : Type 0} (f : X → Y) (xs : List X) (x : X)
    → map f (xs ++ x ∷ []) ≡ map f xs ++ f x ∷ []
map_last f [] x = refl
map_last f (y ∷ ys) x = ap (λ l. f y ∷ l) (map_last f ys x)

-- ---- a state by what it is read from

abbrev state_with : Option Image → ℕ → ℕ × ℕ → DevState
state_with i f a = record {
  version = unwrap_or (option_map (λ x. x.version) i) 0;
  floor = f;
  last_version = a.0;
  last_status = a.1;
}

state_same : (i j : Option Image) (f g : ℕ) (a b : ℕ × ℕ) → i ≡ j → f ≡ g → a ≡ b
    → state_with i f a ≡ state_with j g b
state_same i j f g a b p q r =
    ap (λ x. state_with x f a) p ∙ ap (λ x. state_with j x a) q ∙ ap (state_with j g) r

-- ---- the image of a device by what was left on it

module _ (board : BoardValue) (list : List Element) (e : Element) (d : ℕ) where
  pub image_beside : is_on d e ≡ false → image_of board (list ++ e ∷ []) d ≡ image_of board list d
  image_beside off =
      ap (λ (l : List Element). unwrap_or (last_or None (filter_map image_left l))
      (option_map factory_image (slice_get board.devices d))) (filter_front (is_on d) list e off)

  on_it : is_on d e ≡ true
      → filter_map image_left (filter (is_on d) (list ++ e ∷ []))
      ≡ filter_map image_left (filter (is_on d) list) ++ filter_map image_left (e ∷ [])
  on_it on =
      ap (filter_map image_left) (filter_last (is_on d) list e on)
      ∙ filter_map-append image_left (filter (is_on d) list) (e ∷ [])

  -- it is as it was where the element left it so
  pub image_stays : image_left e ≡ None → image_of board (list ++ e ∷ []) d ≡ image_of board list d
  image_stays none = by_device (is_on d e) refl
    where
      by_device : (b : Bool) → is_on d e ≡ b
          → image_of board (list ++ e ∷ []) d ≡ image_of board list d
      by_device false off = image_beside off
      by_device true on =
          ap (λ (l : List (Option Image)). unwrap_or (last_or None l)
          (option_map factory_image (slice_get board.devices d)))
          (on_it on ∙ ap (λ o. filter_map image_left (filter (is_on d) list) ++ cons_option o []) none
          ∙ append-nil (filter_map image_left (filter (is_on d) list)))

  -- and is what the element left
  pub image_set : is_on d e ≡ true → (i : Option Image) → image_left e ≡ Some i
      → image_of board (list ++ e ∷ []) d ≡ i
  image_set on i some =
      ap (λ (l : List (Option Image)). unwrap_or (last_or None l)
      (option_map factory_image (slice_get board.devices d)))
      (on_it on ∙ ap (λ o. filter_map image_left (filter (is_on d) list) ++ cons_option o []) some)
      ∙ ap (λ o. unwrap_or o (option_map factory_image (slice_get board.devices d)))
      (last_is None (filter_map image_left (filter (is_on d) list)) i)

-- ---- one more that is open

module _ (list : List Element) (e : Element) (open_is : e.standing ≡ Open) where
  no_sealed : is_sealed e ≡ false
  no_sealed = ap (λ s. is_sealed_end (end_in s)) open_is

  none_left : image_left e ≡ None
  none_left = ap (λ st. left_by (image_tried e) (end_in st)) open_is

  no_closed : is_closed e ≡ false
  no_closed = ap (λ s. not (is_standing_open s)) open_is

  pub closed_open : filter is_closed (list ++ e ∷ []) ≡ filter is_closed list
  closed_open = filter_front is_closed list e no_closed

  pub image_open : (board : BoardValue) (d : ℕ)
      → image_of board (list ++ e ∷ []) d ≡ image_of board list d
  image_open board d = image_stays board list e d none_left

  floor_open : (board : BoardValue) (d : ℕ)
      → floor_of board (list ++ e ∷ []) d ≡ floor_of board list d
  floor_open board d =
      ap (λ (l : List Element). greatest (factory_floor board d) (map (λ x. x.floor) l))
      (filter_front (λ x. is_on d x && is_sealed x) list e
      (and_right (is_on d e) (is_sealed e) no_sealed))

  attempt_open : (d : ℕ) → last_attempt (list ++ e ∷ []) d ≡ last_attempt list d
  attempt_open d =
      ap (λ (l : List Element). unwrap_or (option_map attempt_of (last_or None l)) (0, 0))
      (filter_front (λ x. is_on d x && is_closed x) list e
      (and_right (is_on d e) (is_closed e) no_closed))

  pub state_open : (board : BoardValue) (d : ℕ)
      → state_of board (list ++ e ∷ []) d ≡ state_of board list d
  state_open board d =
      state_same (image_of board (list ++ e ∷ []) d) (image_of board list d)
      (floor_of board (list ++ e ∷ []) d) (floor_of board list d)
      (last_attempt (list ++ e ∷ []) d) (last_attempt list d) (image_open board d)
      (floor_open board d) (attempt_open d)

  pub results_open : (board : BoardValue) (n : ℕ)
      → result_on board (list ++ e ∷ []) n ≡ result_on board list n
  results_open board n =
      ap (λ (l : List Element). option_map (λ (r : CapsuleResult). result_bytes r.variable)
      (find (λ (r : CapsuleResult). r.number == n)
      (filter_map (λ k. option_and_then (λ x. result_at board k x x.standing)
      (option_map (λ (p : ℕ × Element). p.1)
      (last_or None
      (filter (λ (p : ℕ × Element). result_number board p.0 == k) (enumerate_from 0 l)))))
      (range_with_len 0 (board.result_max + 1))))) closed_open

  pub last_open : (board : BoardValue) → last_result board (list ++ e ∷ []) ≡ last_result board list
  last_open board =
      ap (λ (l : List Element). option_map (λ (p : ℕ × Element). result_number board p.0)
      (last_or None (enumerate_from 0 l))) closed_open

  pub greatest_open : (board : BoardValue)
      → greatest_on board (list ++ e ∷ []) ≡ greatest_on board list
  greatest_open board =
      ap (λ b. cond b (Some (last_bytes board.result_max)) None)
      (list_any-append is_closed list (e ∷ [])
      ∙ ap (λ b. list_any is_closed list || (b || false)) no_closed
      ∙ or_none (list_any is_closed list))
    where
      or_none : (b : Bool) → (b || (false || false)) ≡ b
      or_none true = refl
      or_none false = refl

  pub spent_open : (serial : ℕ) → spent (list ++ e ∷ []) serial ≡ spent list serial
  spent_open serial =
      ap length (filter_front (λ x. is_of 1 serial x.key && is_closed x) list e
      (and_right (is_of 1 serial e.key) (is_closed e) no_closed))

-- ---- one more that is closed

-- a result has the number that it was made for
numbered : (board : BoardValue) (n : ℕ) (o : Option Element) (r : CapsuleResult)
    → option_and_then (λ e. result_at board n e e.standing) o ≡ Some r → r.number ≡ n
numbered board n None r e = absurd cc
numbered board n (Some x) r e = by_standing x.standing e
  where
    by_standing : (s : Standing) → result_at board n x s ≡ Some r → r.number ≡ n
    by_standing Open k = absurd cc
    by_standing (Closed end at) k =
        sym (ap (λ o. unwrap_or (option_map (λ (c : CapsuleResult). c.number) o) n) k)

-- what comes of the numbers of a range has none of a smaller number
abbrev found_in : ℕ → List CapsuleResult → Option CapsuleResult
found_in n rs = find (λ r. r.number == n) rs

abbrev Numbered : (ℕ → Option CapsuleResult) → Type 0
Numbered f = (k : ℕ) (r : CapsuleResult) → f k ≡ Some r → r.number ≡ k

passed : (n : ℕ) (rest : List CapsuleResult) (o : Option CapsuleResult)
    → ((r : CapsuleResult) → o ≡ Some r → r.number ≡ n → ⊥)
    → found_in n (cons_option o rest) ≡ found_in n rest
passed n rest None apart = refl
passed n rest (Some r) apart =
    ap (λ t. cond t (Some r) (found_in n rest)) (ne_eqb r.number n (apart r refl))

none_of : (f : ℕ → Option CapsuleResult) → Numbered f → (n a len : ℕ) → n < a
    → found_in n (filter_map f (range_with_len a len)) ≡ None
none_of f is n a zero h = refl
none_of f is n a (suc len) h =
    passed n (filter_map f (range_with_len (a + 1) len)) (f a)
    (λ r e k. let number : r.number ≡ a = is a r e in absurd (omega (arith, number, k, h)))
    ∙ none_of f is n (a + 1) len (omega arith)

-- of what comes of the numbers of a range, what has a number is what comes of it
found_at : (f : ℕ → Option CapsuleResult) → Numbered f → (n a len : ℕ) → a ≤ n → n < a + len
    → found_in n (filter_map f (range_with_len a len)) ≡ f n
found_at f is n a zero low high = absurd (omega arith)
found_at f is n a (suc len) low high = elim (cases_eq a n) [
  | inl same ↦
      first same (f a) refl (none_of f is n (a + 1) len (omega (arith, same))) ∙ ap f same
  | inr apart ↦
      passed n (filter_map f (range_with_len (a + 1) len)) (f a)
      (λ r e k. apart (sym (is a r e) ∙ k))
      ∙ found_at f is n (a + 1) len (omega (arith, apart)) (omega arith)
]
  where
    first : a ≡ n → (o : Option CapsuleResult) → f a ≡ o
        → found_in n (filter_map f (range_with_len (a + 1) len)) ≡ None
        → found_in n (cons_option o (filter_map f (range_with_len (a + 1) len))) ≡ o
    first same None e none = none
    first same (Some r) e none =
        ap (λ t. cond t (Some r) (found_in n (filter_map f (range_with_len (a + 1) len))))
        (eq-eqb r.number n (is a r e ∙ same))

-- the bytes of a result
abbrev bytes_at : Option CapsuleResult → Option (List ℕ)
bytes_at o = option_map (λ r. result_bytes r.variable) o

-- the bytes of the result of a number are those of the last element with it
result_is : (board : BoardValue) (list : List Element) (n : ℕ) → n ≤ board.result_max
    → result_on board list n
    ≡ bytes_at (option_and_then (λ e. result_at board n e e.standing) (last_numbered board list n))
result_is board list n h =
    ap bytes_at
    (found_at (λ k. option_and_then (λ e. result_at board k e e.standing)
    (last_numbered board list k))
    (λ k r e. numbered board k (last_numbered board list k) r e) n 0 (board.result_max + 1)
    (omega arith) (omega arith))

module _ (list : List Element) (e : Element) (end : Option End) (at : EfiTime)
    (closed_at : e.standing ≡ Closed end at) where
  is_one_closed : is_closed e ≡ true
  is_one_closed = ap (λ s. not (is_standing_open s)) closed_at

  pub closed_last : filter is_closed (list ++ e ∷ []) ≡ filter is_closed list ++ e ∷ []
  closed_last = filter_last is_closed list e is_one_closed

  ended : end_of e ≡ end
  ended = ap end_in closed_at

  numbered_more : enumerate_from 0 (filter is_closed (list ++ e ∷ []))
      ≡ enumerate_from 0 (filter is_closed list)
      ++ (length (filter is_closed list), e) ∷ []
  numbered_more =
      ap (enumerate_from 0) closed_last
      ∙ numbered_last 0 (filter is_closed list) e
      ∙ ap (λ k. enumerate_from 0 (filter is_closed list) ++ (k, e) ∷ []) (omega arith)

  pub last_closed : (board : BoardValue)
      → last_result board (list ++ e ∷ [])
      ≡ Some (result_number board (length (filter is_closed list)))
  last_closed board =
      ap (λ (l : List (ℕ × Element)).
      option_map (λ (p : ℕ × Element). result_number board p.0) (last_or None l)) numbered_more
      ∙ ap (option_map (λ (p : ℕ × Element). result_number board p.0))
      (last_is None (enumerate_from 0 (filter is_closed list))
      (length (filter is_closed list), e))

  last_numbered_closed : (board : BoardValue) (n : ℕ)
      → last_numbered board (list ++ e ∷ []) n
      ≡ cond (result_number board (length (filter is_closed list)) == n) (Some e)
      (last_numbered board list n)
  last_numbered_closed board n =
      ap (λ (l : List (ℕ × Element)). option_map (λ (p : ℕ × Element). p.1)
      (last_or None (filter (λ (p : ℕ × Element). result_number board p.0 == n) l)))
      numbered_more
      ∙ by_test (result_number board (length (filter is_closed list)) == n) refl
    where
      olds : List (ℕ × Element)
      olds = enumerate_from 0 (filter is_closed list)

      one : ℕ × Element
      one = (length (filter is_closed list), e)

      by_test : (t : Bool) → (result_number board (length (filter is_closed list)) == n) ≡ t
          → option_map (λ (p : ℕ × Element). p.1) (last_or None
          (filter (λ (p : ℕ × Element). result_number board p.0 == n) (olds ++ one ∷ [])))
          ≡ cond t (Some e) (option_map (λ (p : ℕ × Element). p.1) (last_or None
          (filter (λ (p : ℕ × Element). result_number board p.0 == n) olds)))
      by_test true h =
          ap (λ (l : List (ℕ × Element)). option_map (λ (p : ℕ × Element). p.1) (last_or None l))
          (filter_last (λ (p : ℕ × Element). result_number board p.0 == n) olds one h)
          ∙ ap (option_map (λ (p : ℕ × Element). p.1))
          (last_is None
          (filter (λ (p : ℕ × Element). result_number board p.0 == n) olds) one)
      by_test false h =
          ap (λ (l : List (ℕ × Element)). option_map (λ (p : ℕ × Element). p.1) (last_or None l))
          (filter_front (λ (p : ℕ × Element). result_number board p.0 == n) olds one h)

  -- the results: the number that comes next has that of the element, and the others are as before
  pub result_closed : (board : BoardValue) (n : ℕ) → n ≤ board.result_max
      → result_on board (list ++ e ∷ []) n
      ≡ cond (result_number board (length (filter is_closed list)) == n)
      (bytes_at (result_at board n e e.standing)) (result_on board list n)
  result_closed board n h =
      result_is board (list ++ e ∷ []) n h
      ∙ ap (λ o. bytes_at (option_and_then (λ (x : Element). result_at board n x x.standing) o))
      (last_numbered_closed board n)
      ∙ by_test (result_number board (length (filter is_closed list)) == n)
    where
      by_test : (t : Bool)
          → bytes_at (option_and_then (λ (x : Element). result_at board n x x.standing)
          (cond t (Some e) (last_numbered board list n)))
          ≡ cond t (bytes_at (result_at board n e e.standing)) (result_on board list n)
      by_test true = refl
      by_test false = sym (result_is board list n h)

  pub greatest_closed : (board : BoardValue)
      → greatest_on board (list ++ e ∷ []) ≡ Some (last_bytes board.result_max)
  greatest_closed board =
      ap (λ b. cond b (Some (last_bytes board.result_max)) None)
      (list_any-append is_closed list (e ∷ [])
      ∙ ap (λ b. list_any is_closed list || (b || false)) is_one_closed
      ∙ or_true (list_any is_closed list))
    where
      or_true : (b : Bool) → (b || (true || false)) ≡ true
      or_true true = refl
      or_true false = refl

  pub spent_closed : (serial : ℕ)
      → spent (list ++ e ∷ []) serial ≡ spent list serial + cond (is_of 1 serial e.key) 1 0
  spent_closed serial =
      filter_more (λ (x : Element). is_of 1 serial x.key && is_closed x) list e
      ∙ ap (λ b. spent list serial + cond (is_of 1 serial e.key && b) 1 0) is_one_closed
      ∙ ap (λ b. spent list serial + cond b 1 0) (and_true (is_of 1 serial e.key))
    where
      and_true : (b : Bool) → (b && true) ≡ b
      and_true true = refl
      and_true false = refl

  -- ---- states

  -- a device that the element is not on
  pub state_beside : (board : BoardValue) (d : ℕ) → is_on d e ≡ false
      → state_of board (list ++ e ∷ []) d ≡ state_of board list d
  state_beside board d off =
      state_same (image_of board (list ++ e ∷ []) d) (image_of board list d)
      (floor_of board (list ++ e ∷ []) d) (floor_of board list d)
      (last_attempt (list ++ e ∷ []) d) (last_attempt list d)
      (image_beside board list e d off)
      (ap (λ (l : List Element). greatest (factory_floor board d) (map (λ x. x.floor) l))
      (filter_front (λ x. is_on d x && is_sealed x) list e
      (and_left (is_on d e) (is_sealed e) off)))
      (ap (λ (l : List Element). unwrap_or (option_map attempt_of (last_or None l)) (0, 0))
      (filter_front (λ x. is_on d x && is_closed x) list e
      (and_left (is_on d e) (is_closed e) off)))

-- the device that it is on
module _ (board : BoardValue) (list : List Element) (e : Element) (end : End) (at : EfiTime)
    (closed_at : e.standing ≡ Closed (Some end) at) (d : ℕ) (on : is_on d e ≡ true) where
  version_on : version_of board (list ++ e ∷ []) d
      ≡ version_after end (version_of board list d) e.version
  version_on = by_end end closed_at
    where
      version_in : Option Image → ℕ
      version_in i = unwrap_or (option_map (λ (x : Image). x.version) i) 0

      left_is : (c : End) → e.standing ≡ Closed (Some c) at
          → image_left e ≡ left_by (image_tried e) (Some c)
      left_is c h = ap (λ st. left_by (image_tried e) (end_in st)) h

      by_end : (c : End) → e.standing ≡ Closed (Some c) at
          → version_of board (list ++ e ∷ []) d
          ≡ version_after c (version_of board list d) e.version
      by_end (Refused status) h =
          ap version_in (image_stays board list e d (left_is (Refused status) h))
      by_end Sealed h = ap version_in (image_set board list e d on _ (left_is Sealed h))
      by_end Kept h = ap version_in (image_stays board list e d (left_is Kept h))
      by_end Lost h = ap version_in (image_set board list e d on _ (left_is Lost h))

  floor_on : floor_of board (list ++ e ∷ []) d
      ≡ floor_after end (floor_of board list d) e.floor
  floor_on = by_end end closed_at
    where
      raised : (is_sealed e) ≡ true
          → floor_of board (list ++ e ∷ []) d ≡ max (floor_of board list d) e.floor
      raised h =
          ap (λ (l : List Element). greatest (factory_floor board d) (map (λ x. x.floor) l))
          (filter_last (λ x. is_on d x && is_sealed x) list e
          (ap (λ b. b && is_sealed e) on ∙ h))
          ∙ ap (greatest (factory_floor board d))
          (map_last (λ (x : Element). x.floor)
          (filter (λ x. is_on d x && is_sealed x) list) e)
          ∙ greatest_last (factory_floor board d) (sealed_floors list d) e.floor

      stays : is_sealed e ≡ false
          → floor_of board (list ++ e ∷ []) d ≡ floor_of board list d
      stays h =
          ap (λ (l : List Element). greatest (factory_floor board d) (map (λ x. x.floor) l))
          (filter_front (λ x. is_on d x && is_sealed x) list e
          (and_right (is_on d e) (is_sealed e) h))

      by_end : (c : End) → e.standing ≡ Closed (Some c) at
          → floor_of board (list ++ e ∷ []) d
          ≡ floor_after c (floor_of board list d) e.floor
      by_end (Refused status) h = stays (ap (λ s. is_sealed_end (end_in s)) h)
      by_end Sealed h = raised (ap (λ s. is_sealed_end (end_in s)) h)
      by_end Kept h = stays (ap (λ s. is_sealed_end (end_in s)) h)
      by_end Lost h = stays (ap (λ s. is_sealed_end (end_in s)) h)

  attempt_on : last_attempt (list ++ e ∷ []) d ≡ (e.version, attempt_status end)
  attempt_on =
      ap (λ (l : List Element). unwrap_or (option_map attempt_of (last_or None l)) (0, 0))
      (filter_last (λ x. is_on d x && is_closed x) list e
      (ap (λ b. b && is_closed e) on ∙ ap (λ s. not (is_standing_open s)) closed_at))
      ∙ ap (λ o. unwrap_or (option_map attempt_of o) (0, 0))
      (last_is None (filter (λ x. is_on d x && is_closed x) list) e)
      ∙ ap (λ s. (e.version, unwrap_or (option_map attempt_status (end_in s)) 0)) closed_at

  pub state_on : state_of board (list ++ e ∷ []) d ≡ state_after e end (state_of board list d)
  state_on =
      one_state (version_of board (list ++ e ∷ []) d) (floor_of board (list ++ e ∷ []) d)
      (last_attempt (list ++ e ∷ []) d) version_on floor_on attempt_on
    where
      one_state : (v f : ℕ) (a : ℕ × ℕ) → v ≡ version_after end (version_of board list d) e.version
          → f ≡ floor_after end (floor_of board list d) e.floor
          → a ≡ (e.version, attempt_status end)
          → ◌≡◌ {A = DevState}
          (record { version = v; floor = f; last_version = a.0; last_status = a.1 })
          (state_after e end (state_of board list d))
      one_state v f a p q r =
          ap (λ x. record { version = x; floor = f; last_version = a.0; last_status = a.1 }) p
          ∙ ap (λ x. record {
            version = version_after end (version_of board list d) e.version;
            floor = x;
            last_version = a.0;
            last_status = a.1;
          }) q
          ∙ ap (λ (x : ℕ × ℕ). record {
            version = version_after end (version_of board list d) e.version;
            floor = floor_after end (floor_of board list d) e.floor;
            last_version = x.0;
            last_status = x.1;
          }) r

-- ---- the number of the next result

-- the place of the last of numbered items
last_place : {X : Type 0} (n : ℕ) (o : Option (ℕ × X)) (x : X) (xs : List X)
    → option_map (λ (p : ℕ × X). p.0) (last_or o (enumerate_from n (x ∷ xs)))
    ≡ Some (n + length xs)
last_place n o x [] = ap Some (omega arith)
last_place n o x (y ∷ ys) = last_place (n + 1) (Some (n, x)) y ys ∙ ap Some (omega arith)

behind : (k most : ℕ) → number_behind (Some (k % (most + 1))) most ≡ (k + 1) % (most + 1)
behind k most =
    let low : k % (most + 1) < most + 1 = mod-lt k (omega arith) in
    by_test low (nat_le most (k % (most + 1))) refl ∙ mod-add-mod k (most + 1) 1
  where
    by_test : k % (most + 1) < most + 1 → (t : Bool) → nat_le most (k % (most + 1)) ≡ t
        → cond t 0 (k % (most + 1) + 1) ≡ (k % (most + 1) + 1) % (most + 1)
    by_test low true h =
        let at_end : k % (most + 1) + 1 ≡ most + 1 =
        omega (arith, low, leb-true most (k % (most + 1)) h) in
        sym (ap (λ x. x % (most + 1)) at_end ∙ mod_self (most + 1))
    by_test low false h = sym (mod-eq_of_lt (omega (arith, leb-false most (k % (most + 1)) h)))

pub next_is : (board : BoardValue) (list : List Element)
    → number_behind (last_result board list) board.result_max
    ≡ result_number board (length (filter is_closed list))
next_is board list = by_closed (filter is_closed list)
  where
    number_in : (o : Option (ℕ × Element))
        → option_map (λ (p : ℕ × Element). result_number board p.0) o
        ≡ option_map (result_number board) (option_map (λ (p : ℕ × Element). p.0) o)
    number_in None = refl
    number_in (Some p) = refl

    by_closed : (closed : List Element)
        → number_behind (option_map (λ (p : ℕ × Element). result_number board p.0)
        (last_or None (enumerate_from 0 closed))) board.result_max
        ≡ result_number board (length closed)
    by_closed [] = sym (mod-eq_of_lt {n = 0} (omega arith))
    by_closed (x ∷ xs) =
        ap (λ o. number_behind o board.result_max)
        (number_in (last_or None (enumerate_from 0 (x ∷ xs)))
        ∙ ap (option_map (result_number board)) (last_place 0 None x xs))
        ∙ behind (0 + length xs) board.result_max
        ∙ ap (λ n. n % (board.result_max + 1)) (omega arith)
