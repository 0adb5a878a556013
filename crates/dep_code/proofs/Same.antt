-- Bytes have one front of operations, up to END or to the first that breaks a rule.
use Rattle.std.proofs.Common.{◌≡◌, ℕ, ◌+◌, ◌<◌, ◌≤◌, Bool, true, false, not, List, [], ◌∷◌, ◌++◌}
use Rattle.std.proofs.Common.{length, drop, Some, None, refl, sym, ap, subst, ◌∙◌, arith}
use Rattle.std.proofs.Common.{append_assoc, add-zero}
use Rattle.std.specs.List.{list_all, AllByRecursion}
use Rattle.std.proofs.lemmas.List.{length-append}
use Rattle.cu_base.specs.Refusals.{first_refusal}
use Rattle.dep_code.specs.declared.limits.TheConstants.{MAX_SECTION_BYTES}
use Rattle.dep_code.specs.declared.op.Op.{Op}
use Rattle.dep_code.specs.declared.op.Op.TheVariants.{End}
use Rattle.dep_code.specs.declared.fault.DepWhy.{DepWhy}
use Rattle.dep_code.specs.Operations.{op_bytes, section_bytes, HasForm, is_end}
use Rattle.dep_code.specs.Refusals.{place_rows}
use Rattle.dep_code.specs.Sections.{AreBeforeEnd, goes_on, may_follow}
use Rattle.dep_code.proofs.Apart.{same_op, keeps_rows, and_parts}

-- operations from a place on, before an END
pub record GoOn (at : ℕ) (ops : List Op) : Type 0 where
  pub forms : AllByRecursion HasForm ops
  pub no_end : list_all goes_on ops ≡ true
  pub follow : 0 < at → list_all may_follow ops ≡ true
  pub declare : list_all may_follow (drop 1 ops) ≡ true
  pub within : at + length (section_bytes ops) ≤ MAX_SECTION_BYTES

-- no operation that keeps the rules and is not END stands there
abbrev pub Stops : List ℕ → ℕ → Type 0
Stops rest at = (op : Op) (more : List ℕ) → HasForm op → is_end op ≡ false
    → at + length (op_bytes op) ≤ MAX_SECTION_BYTES → (0 < at → may_follow op ≡ true)
    → rest ≡ op_bytes op ++ more → ⊥

pub row_stops : (rest : List ℕ) (at : ℕ) (r : ℕ × DepWhy)
    → first_refusal (place_rows rest at) ≡ Some r → Stops rest at
row_stops rest at r refused op more form goes within follow e =
    let none = ap (λ (l : List ℕ). first_refusal (place_rows l at)) e
    ∙ keeps_rows op more at form within follow in
    let both : Some r ≡ None = sym refused ∙ none in
    cc

pub end_stops : (more : List ℕ) (at : ℕ) → Stops (op_bytes End ++ more) at
end_stops more at op behind form goes within follow e =
    let same = same_op End op more behind tt form e in
    let both : true ≡ false = ap is_end same.0 ∙ goes in
    cc

not_true : (b : Bool) → not b ≡ true → b ≡ false
not_true true e = absurd cc
not_true false e = refl

all_behind : (p : Op → Bool) (ops : List Op) → list_all p ops ≡ true
    → list_all p (drop 1 ops) ≡ true
all_behind p [] e = refl
all_behind p (op ∷ ops) e = (and_parts _ _ e).1

first_kept : (at : ℕ) (op : Op) (ops : List Op) → GoOn at (op ∷ ops) → (is_end op ≡ false)
    × (0 < at → may_follow op ≡ true)
first_kept at op ops h =
    (not_true (is_end op) (and_parts _ _ h.no_end).0, λ some. (and_parts _ _ (h.follow some)).0)

rest_kept : (at : ℕ) (op : Op) (ops : List Op) → GoOn at (op ∷ ops)
    → GoOn (at + length (op_bytes op)) ops
rest_kept at op ops h = record {
  forms = h.forms.1;
  no_end = (and_parts _ _ h.no_end).1;
  follow = λ some. h.declare;
  declare = all_behind may_follow ops h.declare;
  within = omega (arith, h.within, length-append (op_bytes op) (section_bytes ops));
}

stopped : (r more : List ℕ) (at : ℕ) (op : Op) (ops : List Op) → GoOn at (op ∷ ops) → Stops r at
    → r ≡ section_bytes (op ∷ ops) ++ more → ⊥
stopped r more at op ops h stops e =
    let first = first_kept at op ops h in
    stops op (section_bytes ops ++ more) h.forms.0 first.0
    (omega (arith, h.within, length-append (op_bytes op) (section_bytes ops))) first.1
    (e ∙ append_assoc (op_bytes op) (section_bytes ops) more)

both_more : (at : ℕ) (x y : Op) (a b : List Op) → x ≡ y → (a ≡ b) → x ∷ a ≡ y ∷ b
both_more at x y a b e f = cc

pub same_front : (a b : List Op) (r s : List ℕ) (at : ℕ) → GoOn at a → GoOn at b → section_bytes a
    ++ r ≡ section_bytes b ++ s → Stops r (at + length (section_bytes a))
    → Stops s (at + length (section_bytes b)) → (a ≡ b) × (r ≡ s)
same_front [] [] r s at ha hb e sr ss = (refl, e)
same_front [] (y ∷ b) r s at ha hb e sr ss =
    absurd (stopped r s at y b hb (subst (Stops r) (add-zero at) sr) e)
same_front (x ∷ a) [] r s at ha hb e sr ss =
    absurd (stopped s r at x a ha (subst (Stops s) (add-zero at) ss) (sym e))
same_front (x ∷ a) (y ∷ b) r s at ha hb e sr ss =
    let apart : op_bytes x ++ (section_bytes a ++ r) ≡ op_bytes y ++ (section_bytes b ++ s) =
    sym (append_assoc (op_bytes x) (section_bytes a) r) ∙ e
    ∙ append_assoc (op_bytes y) (section_bytes b) s in
    let one = same_op x y (section_bytes a ++ r)
    (section_bytes b ++ s) ha.forms.0 hb.forms.0 apart in
    let next = at + length (op_bytes x) in
    let long : at + length (op_bytes y) ≡ next =
    ap (λ (o : Op). at + length (op_bytes o)) (sym one.0) in
    let left : at + length (section_bytes (x ∷ a)) ≡ next + length (section_bytes a) =
    omega (arith, length-append (op_bytes x) (section_bytes a)) in
    let right : at + length (section_bytes (y ∷ b)) ≡ next + length (section_bytes b) =
    omega (arith, length-append (op_bytes y) (section_bytes b)) in
    let kept : GoOn next b = subst (λ (n : ℕ). GoOn n b) long (rest_kept at y b hb) in
    let rest = same_front a b r s next (rest_kept at x a ha) kept one.1 (subst (Stops r) left sr)
    (subst (Stops s) right ss) in
    (both_more at x y a b one.0 rest.0, rest.1)

pub from_start : (ops : List Op) → AreBeforeEnd ops → length (section_bytes ops) ≤ MAX_SECTION_BYTES
    → GoOn 0 ops
from_start ops h within =
    record {
      forms = h.forms;
      no_end = h.no_end;
      follow = λ some. absurd (omega arith);
      declare = h.declare;
      within = omega arith;
    }
