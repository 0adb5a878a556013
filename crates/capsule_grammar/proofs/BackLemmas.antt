-- Capsules that are read one after the other.
use Rattle.std.proofs.Common.{◌≡◌, ℕ, ◌+◌, ◌-◌, ◌^◌, ◌<◌, ◌≤◌, List, [], ◌∷◌, ◌++◌, length, take}
use Rattle.std.proofs.Common.{drop, Some, refl, sym, ap, subst, ◌∙◌, inl, inr, arith}
use Rattle.std.specs.List.{flat_map, AllByRecursion}
use Rattle.std.proofs.lemmas.List.{flat_map_more, take_all, take_rest, take-append-drop}
use Rattle.std.proofs.lemmas.List.{length-take, length-drop}
use Rattle.cu_base.specs.declared.limits.TheConstants.{MAX_CAPSULE_BYTES}
use Rattle.cu_base.specs.Bytes.{IsBytes}
use Rattle.cu_base.proofs.Fields.{take_field, IsBytes-drop}
use Rattle.capsule_grammar.specs.declared.value.Capsule.{Capsule}
use Rattle.capsule_grammar.specs.declared.refusal.Why.{Why}
use Rattle.capsule_grammar.specs.declared.refusal.Why.TheVariants.{TooManyCapsules}
use Rattle.capsule_grammar.specs.declared.faults.DecodeFault.{DecodeFault}
use Rattle.capsule_grammar.specs.declared.faults.DecodeFault.TheVariants.{Refused, Memory}
use Rattle.capsule_grammar.specs.BackToBack.{SpellsAll, RefusedAll, IsRefusalOfAll}
use Rattle.capsule_grammar.specs.Faults.{IsRefusal, IsBelow, IsBehind}
use Rattle.capsule_grammar.specs.Fits.{IsCapsule}
use Rattle.capsule_grammar.specs.Refusals.{refusal}
use Rattle.capsule_grammar.specs.Spelling.{spelling}
use Rattle.capsule_grammar.proofs.Lists.{append_both}
use Rattle.capsule_grammar.proofs.Places.{place_below}
use Rattle.capsule_grammar.proofs.Spelled.{sized_length}

-- these capsules stand before this place
pub record Before (capsules : List Capsule) (at : ℕ) (bytes : List ℕ) : Type 0 where
  pub each : AllByRecursion IsCapsule capsules
  pub front : flat_map spelling capsules ≡ take at bytes
  pub within : at ≤ length bytes

each_push : (cs : List Capsule) (c : Capsule) → AllByRecursion IsCapsule cs → IsCapsule c
    → AllByRecursion IsCapsule (cs ++ c ∷ [])
each_push [] c each is = (is, tt)
each_push (x ∷ cs) c each is = (each.0, each_push cs c each.1 is)

pub before_grown : (cs : List Capsule) (c : Capsule) (at size : ℕ) (bytes : List ℕ)
    → Before cs at bytes → IsCapsule c → size ≡ length (spelling c)
    → take size (drop at bytes) ≡ spelling c → Before (cs ++ c ∷ []) (at + size) bytes
before_grown cs c at size bytes b is size_is here = record {
  each = each_push cs c b.each is;
  front = sym (flat_map_more spelling [] cs c)
      ∙ append_both (flat_map spelling cs) (take at bytes) (spelling c)
      (take size (drop at bytes)) b.front (sym here) ∙ take_field bytes at size;
  within = omega (
    arith,
    b.within,
    size_is,
    ap length here,
    length-take size (drop at bytes),
    length-drop at bytes,
  );
}

-- The slice from a place on, as a call is given it, is what stands from there on.
abbrev pub rest_of : List ℕ → ℕ → List ℕ
rest_of bytes at = take (length bytes - at) (drop at bytes)

pub before_push : (cs new : List Capsule) (c : Capsule) (at size : ℕ) (bytes : List ℕ)
    → Before cs at bytes → IsCapsule c → size ≡ length (spelling c)
    → take size (rest_of bytes at) ≡ spelling c → new ≡ cs ++ c ∷ [] → Before new (at + size) bytes
before_push cs new c at size bytes b is size_is here e =
    rw e (before_grown cs c at size bytes b is size_is
    (ap (take size) (sym (take_rest bytes at)) ∙ here))

pub size_limit : (c : Capsule) → IsCapsule c → length (spelling c) ≤ MAX_CAPSULE_BYTES
size_limit = sized_length

place_is : (cs : List Capsule) (at : ℕ) (bytes : List ℕ) → Before cs at bytes
    → length (flat_map spelling cs) ≡ at
place_is cs at bytes b = omega (arith, ap length b.front, length-take at bytes, b.within)

pub spells_all : (cs : List Capsule) (at : ℕ) (bytes : List ℕ) → Before cs at bytes → 0 < length cs
    → length cs ≤ 8 → at ≡ length bytes → SpellsAll cs bytes
spells_all cs at bytes b some few end =
    record {
      some = some;
      few = few;
      each = b.each;
      whole = b.front
          ∙ take_all at bytes (omega arith);
    }

pub one_more : (cs : List Capsule) (at : ℕ) (bytes : List ℕ) → Before cs at bytes → length cs ≡ 8
    → at < length bytes → RefusedAll bytes at TooManyCapsules
one_more cs at bytes b count more = record {
  capsules = cs;
  rest = drop at bytes;
  each = b.each;
  whole = ap (λ (l : List ℕ). l ++ drop at bytes) b.front ∙ take-append-drop at bytes;
  refused = inl
      (record {
        count = count;
        more = omega (arith, length-drop at bytes);
        place = sym (place_is cs at bytes b);
        cause = refl;
      });
}

pub refused_rest : (cs : List Capsule) (at from to : ℕ) (why told : Why) (bytes : List ℕ)
    → Before cs at bytes → length cs < 8 → (0 < length cs → at < length bytes)
    → refusal (drop at bytes) ≡ Some (from, why) → to ≡ from + at → told ≡ why
    → RefusedAll bytes to told
refused_rest cs at from to why told bytes b few more e place cause = record {
  capsules = cs;
  rest = drop at bytes;
  each = b.each;
  whole = ap (λ (l : List ℕ). l ++ drop at bytes) b.front ∙ take-append-drop at bytes;
  refused = inr (record {
    few = few;
    more = λ some. (let m = more some in omega (arith, m, length-drop at bytes));
    from = from;
    place = omega (arith, place, place_is cs at bytes b);
    refused = e ∙ ap (λ (w : Why). Some (from, w)) (sym cause);
  });
}

fault_from : (fault told : DecodeFault) (cs : List Capsule) (at : ℕ) (bytes : List ℕ)
    → Before cs at bytes → length cs < 8 → (0 < length cs → at < length bytes)
    → IsRefusal fault (refusal (drop at bytes)) → IsBehind at fault told → IsRefusalOfAll told bytes
fault_from (Refused r) (Refused s) cs at bytes b few more e behind =
    refused_rest cs at r.at s.at r.why s.why bytes b few more e behind.0 behind.1
fault_from Memory Memory cs at bytes b few more e behind = tt
fault_from (Refused r) Memory cs at bytes b few more e behind = absurd behind
fault_from Memory (Refused s) cs at bytes b few more e behind = absurd behind

below_from : (fault : DecodeFault) (at : ℕ) (bytes : List ℕ) → IsBytes bytes
    → IsRefusal fault (refusal (drop at bytes)) → IsBelow (2 ^ 31) fault
below_from (Refused r) at bytes is e =
    place_below (drop at bytes) (r.at, r.why) (IsBytes-drop at bytes is) e
below_from Memory at bytes is e = tt

pub fault_behind : (fault told : DecodeFault) (cs : List Capsule) (at : ℕ) (bytes : List ℕ)
    → Before cs at bytes → length cs < 8 → (0 < length cs → at < length bytes)
    → IsRefusal fault (refusal (rest_of bytes at)) → IsBehind at fault told
    → IsRefusalOfAll told bytes
fault_behind fault told cs at bytes b few more e behind =
    fault_from fault told cs at bytes b few more
    (subst (λ (l : List ℕ). IsRefusal fault (refusal l)) (take_rest bytes at) e) behind

pub fault_below : (fault : DecodeFault) (at : ℕ) (bytes : List ℕ) → IsBytes bytes
    → IsRefusal fault (refusal (rest_of bytes at)) → IsBelow (2 ^ 31) fault
fault_below fault at bytes is e =
    below_from fault at bytes is
    (subst (λ (l : List ℕ). IsRefusal fault (refusal l)) (take_rest bytes at) e)
