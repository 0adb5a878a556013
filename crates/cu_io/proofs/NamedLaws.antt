-- Names that are distinct stay so when a new one is appended.
use Rattle.std.proofs.Common.{◌≡◌, ℕ, Bool, true, false, List, [], ◌∷◌, ◌++◌, None, Some, Option}
use Rattle.std.proofs.Common.{refl, sym, ◌∙◌, cond}
use Rattle.std.proofs.lemmas.Slice.Eq.{bytes_eq-Decides}
use Rattle.std.proofs.lemmas.Bool.Decides.{same_from_decides}
use Rattle.std.specs.Str.{bytes_eq}
use Rattle.cu_io.specs.Named.{Named, LacksName, HasDistinctNames, bytes_named}

-- a test chooses None only where it is false, and then from the second
cond_none : {X : Type 0} (b : Bool) (x : X) (r : Option X) → cond b (Some x) r ≡ None → (b ≡ false)
    × (r ≡ None)
cond_none true x r none = cc
cond_none false x r none = (refl, none)

cond_none_from : {X : Type 0} (b : Bool) (x : X) (r : Option X) → b ≡ false → r ≡ None
    → cond b (Some x) r ≡ None
cond_none_from b x r other none = cc

bytes_eq-sym : (a b : List ℕ) → bytes_eq a b ≡ bytes_eq b a
bytes_eq-sym a b =
    let there = bytes_eq-Decides a b in
    let back = bytes_eq-Decides b a in
    same_from_decides (bytes_eq a b) (bytes_eq b a) there
    ((λ same. sym (back.0 same)), (λ same. back.1 (sym same)))

-- a name that is not that of the new pair is lacked still
LacksName-append : (named : Named) (pair : List ℕ × List ℕ) (name : List ℕ) → LacksName named name
    → bytes_eq pair.0 name ≡ false → LacksName (named ++ pair ∷ []) name
LacksName-append [] pair name lacks other = cond_none_from (bytes_eq pair.0 name) pair.1 None other
    refl
LacksName-append (first ∷ rest) pair name lacks other =
    let parts = cond_none (bytes_eq first.0 name) first.1 (bytes_named rest name) lacks in
    cond_none_from (bytes_eq first.0 name) first.1 (bytes_named (rest ++ pair ∷ []) name) parts.0
    (LacksName-append rest pair name parts.1 other)

pub HasDistinctNames-append : (named : Named) (pair : List ℕ × List ℕ) → HasDistinctNames named
    → LacksName named pair.0 → HasDistinctNames (named ++ pair ∷ [])
HasDistinctNames-append [] pair distinct lacks = (refl, tt)
HasDistinctNames-append (first ∷ rest) pair distinct lacks =
    let parts = cond_none (bytes_eq first.0 pair.0) first.1 (bytes_named rest pair.0) lacks in (
      LacksName-append rest pair first.0 distinct.0 (bytes_eq-sym pair.0 first.0 ∙ parts.0),
      HasDistinctNames-append rest pair distinct.1 parts.1,
    )
