-- The sizes of changes within their limits.
use Rattle.std.proofs.Common.{◌≡◌, ℕ, suc, ◌*◌, ◌<◌, ◌≤◌, ◌^◌, List, [], ◌∷◌, length, arith, true}
use Rattle.std.proofs.Common.{IsTrue, All, length-append, refl}
use Rattle.std.proofs.lemmas.Bool.{leb-true, lt-ltb}
use Rattle.std.specs.List.{flat_map, list_all}
use Rattle.std.proofs.Common.{nat_eq, nat_le, ◌&&◌}
use Rattle.var_log.specs.declared.change.Change.{Change}
use Rattle.var_log.specs.declared.change.Change.TheVariants.{Set, Delete}
use Rattle.var_log.specs.declared.limits.TheConstants.{MAX_NAME}
use Rattle.var_log.specs.Changes.{is_name, is_name_byte, keeps_limits, has_sizes}
use Rattle.var_log.specs.Records.{change_bytes, body_of}
use Rattle.var_log.proofs.Spelled.{and_first, and_second, eqb-true, length_of_set, length_of_delete}

pub name_small : (name : List ℕ) → is_name name ≡ true → length name ≤ 64
name_small name is =
    leb-true _ _ (and_second (nat_le 1 (length name)) _
    (and_first (nat_le 1 (length name) && nat_le (length name) MAX_NAME) (list_all is_name_byte name) is))

pub data_small : (name v : List ℕ) (a : ℕ) (g : List ℕ)
    → keeps_limits (Set name (record { bytes = g }) a v) ≡ true → length v ≤ 16384
data_small name v a g is = leb-true _ _ (and_second (is_name name) _ is)

pub set_sized : (name g v : List ℕ) (a : ℕ) → length g ≡ 16 → a < 2 ^ 32
    → has_sizes (Set name (record { bytes = g }) a v) ≡ true
set_sized name g v a long low = rw (long, lt-ltb a (2 ^ 32) low) refl

pub delete_sized : (name g : List ℕ) → length g ≡ 16 → has_sizes (Delete name (record { bytes = g })) ≡ true
delete_sized name g long = rw long refl

-- a change takes 18 bytes at least
change_some : (c : Change) → has_sizes c ≡ true → 18 ≤ length (change_bytes c)
change_some (Set name guid a v) sized =
    omega (
      arith,
      length_of_set name guid.bytes v a,
      eqb-true _ _ (and_first (nat_eq (length guid.bytes) 16) _ sized),
    )
change_some (Delete name guid) sized =
    omega (arith, length_of_delete name guid.bytes, eqb-true _ _ sized)

changes_some : (cs : List Change) → All (λ c. IsTrue (has_sizes c)) cs
    → 18 * length cs ≤ length (flat_map change_bytes cs)
changes_some [] each = omega arith
changes_some (c ∷ cs) each =
    omega (
      arith,
      change_some c (each 0 c (omega arith)),
      changes_some cs (λ k d within. each (suc k) d (omega arith)),
      length-append (change_bytes c) (flat_map change_bytes cs),
    )

-- so there are few in a small body
pub few_changes : (cs : List Change) → All (λ c. IsTrue (has_sizes c)) cs
    → 18 * length cs ≤ length (body_of cs)
few_changes cs each = omega (arith, changes_some cs each)
