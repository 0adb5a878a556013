-- Fields one behind the other, and lists over a range of numbers.
use Rattle.std.proofs.Common.{◌≡◌, ℕ, zero, suc, ◌+◌, ◌-◌, ◌<◌, ◌≤◌, Bool, true, List, [], ◌∷◌}
use Rattle.std.proofs.Common.{◌++◌, take, drop, map, refl, sym, ap, ◌∙◌, arith, append_assoc}
use Rattle.std.specs.List.{range_with_len, list_all}
use Rattle.std.proofs.lemmas.List.{drop-drop}
use Rattle.std.proofs.lemmas.List.FromFn.{map-range_with_len_more}
use Rattle.std.proofs.lemmas.Bool.{and_from}
use Rattle.cu_base.specs.Fields.{field}
use Rattle.cu_base.proofs.Fields.{take_field}

pub field_split : (bytes : List ℕ) (at m n : ℕ) → field bytes at m
    ++ field bytes (at + m) n ≡ field bytes at (m + n)
field_split bytes at m n = ap (λ (l : List ℕ). take m (drop at bytes) ++ take n l)
    (sym (drop-drop m at bytes)) ∙ take_field (drop at bytes) m n

-- the same between places
pub between_split : (bytes : List ℕ) (a b c : ℕ) → a ≤ b → b ≤ c → field bytes a (b - a)
    ++ field bytes b (c - b) ≡ field bytes a (c - a)
between_split bytes a b c ab bc =
    let e : a + (b - a) ≡ b = omega arith in
    let s : (b - a) + (c - b) ≡ c - a = omega arith in
    ap (λ (k : ℕ). field bytes a (b - a) ++ field bytes k (c - b)) (sym e)
    ∙ field_split bytes a (b - a) (c - b) ∙ ap (field bytes a) s

-- the same function on a range
pub map_range : {X : Type 0} (f g : ℕ → X) (a n : ℕ) → ((k : ℕ) → a ≤ k → k < a + n → f k ≡ g k)
    → map f (range_with_len a n) ≡ map g (range_with_len a n)
map_range f g a zero h = refl
map_range f g a (suc n) h = rw (
  h a (omega arith) (omega arith),
  map_range f g (a + 1) n (λ k low high. h k (omega arith) (omega arith)),
) refl

pub map-range-append : {X : Type 0} (f : ℕ → X) (a n m : ℕ) → map f (range_with_len a n)
    ++ map f (range_with_len (a + n) m) ≡ map f (range_with_len a (n + m))
map-range-append f a zero m =
    let e : a + 0 ≡ a = omega arith in
    let s : 0 + m ≡ m = omega arith in
    rw (e, s) refl
map-range-append f a (suc n) m =
    let e : a + suc n ≡ a + 1 + n = omega arith in
    let s : suc n + m ≡ suc (n + m) = omega arith in
    rw (e, s) (ap (λ t. f a ∷ t) (map-range-append f (a + 1) n m))

pub map-map-range : {X Y : Type 0} (g : X → Y) (f : ℕ → X) (a n : ℕ)
    → map g (map f (range_with_len a n)) ≡ map (λ k. g (f k)) (range_with_len a n)
map-map-range g f a zero = refl
map-map-range g f a (suc n) = ap (λ t. g (f a) ∷ t) (map-map-range g f (a + 1) n)

-- a test holds of each item of the front of a range
pub all_of_range : {X : Type 0} (p : X → Bool) (f : ℕ → X) (a n m : ℕ)
    → ((k : ℕ) → a ≤ k → k < a + n → k < a + m → p (f k) ≡ true)
    → list_all p (take m (map f (range_with_len a n))) ≡ true
all_of_range p f a zero zero h = refl
all_of_range p f a zero (suc m) h = refl
all_of_range p f a (suc n) zero h = refl
all_of_range p f a (suc n) (suc m) h =
    and_from _ _ (h a (omega arith) (omega arith) (omega arith))
    (all_of_range p f (a + 1) n m
    (λ k low high front. h k (omega arith) (omega arith) (omega arith)))

pub all_range : {X : Type 0} (p : X → Bool) (f : ℕ → X) (a n : ℕ)
    → ((k : ℕ) → a ≤ k → k < a + n → p (f k) ≡ true)
    → list_all p (map f (range_with_len a n)) ≡ true
all_range p f a zero h = refl
all_range p f a (suc n) h = and_from _ _ (h a (omega arith) (omega arith))
    (all_range p f (a + 1) n (λ k low high. h k (omega arith) (omega arith)))

pub regroup : (h i v p : List ℕ) → h ++ (i ++ (v ++ p)) ≡ ((h ++ i) ++ v) ++ p
regroup h i v p = simp append_assoc

pub append_both : (a a' b b' : List ℕ) → a ≡ a' → b ≡ b' → a ++ b ≡ a' ++ b'
append_both a a' b b' ea eb = rw (ea, eb) refl

-- one more item of a range
pub pushed : {X : Type 0} (f : ℕ → X) (a k j : ℕ) (old new : List X) (x : X) → a + k ≡ j
    → old ≡ map f (range_with_len a k) → x ≡ f j → new ≡ old ++ x ∷ []
    → new ≡ map f (range_with_len a (k + 1))
pushed f a k j old new x at so_far here e =
    e ∙ rw (so_far, here) (sym (map-range_with_len_more f a k j at))
