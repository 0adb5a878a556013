-- Result variables: how many bytes they take, and which row refuses them.
use Rattle.std.proofs.Common.{◌≡◌, ℕ, ◌+◌, ◌*◌, List, [], ◌∷◌, ◌++◌, length, Option, Some, None, refl}
use Rattle.std.proofs.Common.{ap, ◌∙◌, arith, length-append, Result, Ok, Err, ◌≢◌, ◌==◌, Bool, true}
use Rattle.std.proofs.Common.{false, cond, not, drop, subst, sym}
use Rattle.std.proofs.lemmas.Bool.{eq-eqb, eqb-true}
use Rattle.cu_base.specs.Fields.{bytes_of}
use Rattle.cu_base.specs.Refusals.{Row, first_refusal, AnswersBy, IsTold}
use Rattle.cu_base.proofs.Rows.{first-some, first-none}
use Rattle.report_tables.specs.Results.{fmp_bytes, result_size, fmp_end_rows, end_place}
use Rattle.report_tables.specs.Results.{fmp_field_rows, fmp_rows, target_place}
use Rattle.report_tables.specs.declared.faults.ReportFault.TheVariants.{BadSize}
use Rattle.report_tables.specs.Units.{unit_bytes, text_rows, text_size, text_at_front}
use Rattle.report_tables.specs.declared.result.FmpResult.{FmpResult}
use Rattle.report_tables.specs.declared.result.ResultVar.{ResultVar}
use Rattle.report_tables.proofs.UnitLemmas.{length-unit_bytes}

-- five parts, one behind another
parts_size : (a t f g : List ℕ) (x y : ℕ)
    → length (a ++ x ∷ y ∷ t ++ f ++ g) ≡ length a + 2 + length t + length f + length g
parts_size a t f g x y = simp length-append (omega arith)

-- the bytes of the part on a payload
pub fmp_size : (p : FmpResult)
    → length (fmp_bytes (Some p))
    ≡ 4 + length p.type_id.bytes + (2 * length p.file + 2) + (2 * length p.target + 2)
fmp_size p =
    parts_size (bytes_of 2 1) p.type_id.bytes (unit_bytes p.file) (unit_bytes p.target)
    p.payload p.index
    ∙ ap (λ n. 4 + length p.type_id.bytes + n + length (unit_bytes p.target))
    (length-unit_bytes p.file)
    ∙ ap (λ n. 4 + length p.type_id.bytes + (2 * length p.file + 2) + n)
    (length-unit_bytes p.target)

pub size_with : (v : ResultVar) (p : FmpResult) → v.fmp ≡ Some p
    → result_size v
    ≡ 48 + (4 + length p.type_id.bytes + (2 * length p.file + 2) + (2 * length p.target + 2))
size_with v p e = ap (λ f. 48 + length (fmp_bytes f)) e ∙ ap (λ n. 48 + n) (fmp_size p)

-- a fault that the first of two tables tells is told by both
pub told_first : {R : Type 0} (told : Option R) (xs ys : List (Row R))
    → IsTold told (first_refusal xs) → IsTold told (first_refusal (xs ++ ys))
told_first None xs ys h = tt
told_first (Some r) xs ys h = first-some xs ys r h

-- the same of an answer
pub refused_first : {X E R : Type 0} (told : E → Option R) (result : Result X E) (fault : E)
    (xs ys : List (Row R)) → result ≡ Err fault → IsTold (told fault) (first_refusal xs)
    → AnswersBy told result (first_refusal (xs ++ ys))
refused_first told (Ok x) fault xs ys e h = absurd cc
refused_first told (Err f) fault xs ys e h =
    let same : f ≡ fault = cc in
    rw same (told_first (told fault) xs ys h)

-- ---- the last row of a part on a payload

pub end_apart : (bytes : List ℕ) → length bytes ≢ end_place bytes
    → first_refusal (fmp_end_rows bytes) ≡ Some BadSize
end_apart bytes h = by_test (length bytes == end_place bytes) refl
  where
    by_test : (b : Bool) → (length bytes == end_place bytes) ≡ b
        → cond (not b) (Some BadSize) None ≡ Some BadSize
    by_test true is = absurd (h (eqb-true _ _ is))
    by_test false is = refl

pub end_here : (bytes : List ℕ) → length bytes ≡ end_place bytes
    → first_refusal (fmp_end_rows bytes) ≡ None
end_here bytes e = ap (λ b. cond (not b) (Some BadSize) None) (eq-eqb _ _ e)

-- ---- all rows of a part on a payload

-- a place behind the first text, and the end behind the second, as they were found
pub record Found (bytes : List ℕ) (at last : ℕ) : Type 0 where
  pub fields : first_refusal (fmp_field_rows bytes) ≡ None
  pub file : first_refusal (text_rows (drop 68 bytes)) ≡ None
  pub place : at ≡ target_place bytes
  pub target : first_refusal (text_rows (drop at bytes)) ≡ None
  pub behind : last ≡ at + text_size (text_at_front (drop at bytes))

end_found : (bytes : List ℕ) (at end : ℕ) → Found bytes at end → end ≡ end_place bytes
end_found bytes at end f =
    f.behind ∙ ap (λ n. n + text_size (text_at_front (drop n bytes))) f.place

all_rows : (bytes : List ℕ) (at end : ℕ) → Found bytes at end
    → first_refusal (fmp_rows bytes) ≡ first_refusal (fmp_end_rows bytes)
all_rows bytes at end f =
    let target : first_refusal (text_rows (drop (target_place bytes) bytes)) ≡ None =
    subst (λ n. first_refusal (text_rows (drop n bytes)) ≡ None) f.place f.target in
    first-none (fmp_field_rows bytes)
    (text_rows (drop 68 bytes)
    ++ (text_rows (drop (target_place bytes) bytes) ++ fmp_end_rows bytes)) f.fields
    ∙ first-none (text_rows (drop 68 bytes))
    (text_rows (drop (target_place bytes) bytes) ++ fmp_end_rows bytes) f.file
    ∙ first-none (text_rows (drop (target_place bytes) bytes)) (fmp_end_rows bytes) target

pub more_behind : (bytes : List ℕ) (at end : ℕ) → Found bytes at end → length bytes ≢ end
    → first_refusal (fmp_rows bytes) ≡ Some BadSize
more_behind bytes at end f h =
    all_rows bytes at end f
    ∙ end_apart bytes (λ e. h (e ∙ sym (end_found bytes at end f)))

pub none_behind : (bytes : List ℕ) (at end : ℕ) → Found bytes at end → length bytes ≡ end
    → first_refusal (fmp_rows bytes) ≡ None
none_behind bytes at end f e =
    all_rows bytes at end f ∙ end_here bytes (e ∙ end_found bytes at end f)
