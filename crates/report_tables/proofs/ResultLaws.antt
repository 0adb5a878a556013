-- Result variables: what is written is read again, and what is read is written back.
use Rattle.std.proofs.Common.{◌≡◌, ◌≢◌, ℕ, ◌+◌, ◌*◌, ◌^◌, ◌<◌, ◌≤◌, ◌==◌, Bool, true, false, cond, not}
use Rattle.std.proofs.Common.{List, [], ◌∷◌, ◌++◌, length, get_or, take, drop, Option, Some, None, IfSome}
use Rattle.std.proofs.Common.{refl, sym, ap, subst, ◌∙◌, arith, append_assoc, append-nil, length-append}
use Rattle.std.proofs.Common.{length-drop, length-take}
use Rattle.std.proofs.lemmas.Bool.{le-ltb, ltb-false, eq-eqb, eqb-true, not_from_true, not-false}
use Rattle.std.proofs.lemmas.List.{drop-drop, drop_at, drop_all, get_or-drop, take_at, take_all}
use Rattle.std.proofs.lemmas.List.{take-append-drop}
use Rattle.cu_base.specs.Bytes.{IsBytes}
use Rattle.cu_base.specs.Fields.{number, field, number_at, bytes_of}
use Rattle.cu_base.specs.Refusals.{first_refusal}
use Rattle.cu_base.specs.Times.{time_bytes, time_at_front}
use Rattle.cu_base.specs.declared.status.EfiStatus.{EfiStatus}
use Rattle.cu_base.specs.declared.time.EfiTime.{EfiTime}
use Rattle.cu_base.proofs.Fields.{IsBytes-drop, IsBytes-field, length-bytes_of, length-field}
use Rattle.cu_base.proofs.Fields.{field_in, number_at_in, next_number, next_field, next_byte}
use Rattle.cu_base.proofs.Fields.{bytes_of-number_at, take_field}
use Rattle.cu_base.proofs.Rows.{passed, none_refused, first-none, first-parts}
use Rattle.cu_base.proofs.Sixteen.{sixteen}
use Rattle.cu_base.proofs.TimeLemmas.{writes_back}
use Rattle.report_tables.specs.Results.{fmp_bytes, result_size, result_layout, result_rows, fmp_rows}
use Rattle.report_tables.specs.Results.{fmp_fields, result_fields, file_in, target_in, target_place}
use Rattle.report_tables.specs.Results.{fmp_field_rows, fmp_end_rows, end_place}
use Rattle.report_tables.specs.Results.{IsResult, IsFmpResult}
use Rattle.report_tables.specs.Units.{unit_bytes, text_at_front, text_rows, text_size}
use Rattle.report_tables.specs.declared.result.FmpResult.{FmpResult}
use Rattle.report_tables.specs.declared.result.ResultVar.{ResultVar}
use Rattle.report_tables.proofs.EsrtLemmas.{number_moved}
use Rattle.report_tables.proofs.ResultLemmas.{Found, none_behind, fmp_size}
use Rattle.report_tables.proofs.TextLemmas.{text_of, text_accepted, text_back, text_room}
use Rattle.report_tables.proofs.UnitLemmas.{length-unit_bytes, not_zero}

-- ---- the header

-- a moment reads the first 16 bytes alone
time_front : (x y : List ℕ) → length x ≡ 16 → time_at_front (x ++ y) ≡ time_at_front x
time_front x y long = rw (sixteen x long) refl

abbrev made : List ℕ → EfiTime → ℕ → Option FmpResult → ResultVar
made guid time code fmp = record {
  guid = record { bytes = guid };
  time = time;
  status = record { code = code };
  fmp = fmp;
}

same_made : (g g' : List ℕ) (t t' : EfiTime) (c c' : ℕ) (f f' : Option FmpResult) → g ≡ g'
    → t ≡ t' → c ≡ c' → f ≡ f' → made g t c f ≡ made g' t' c' f'
same_made g g' t t' c c' f f' eg et ec ef = rw (eg, et, ec, ef) refl

-- what stands in a layout
pub record Laid (w : List ℕ) (size reserved : ℕ) (guid moment : List ℕ) (code : ℕ) (part : List ℕ) :
    Type 0 where
  pub long : length w ≡ 48 + length part
  pub total : number_at w 0 4 ≡ size
  pub guid_is : field w 8 16 ≡ guid
  pub time_is : drop 24 w ≡ moment ++ drop 40 w
  pub code_is : number_at w 40 8 ≡ code
  pub part_is : drop 48 w ≡ part

laid : (w s r g t c f : List ℕ) (size reserved code : ℕ) → w ≡ s ++ r ++ g ++ t ++ c ++ f
    → s ≡ bytes_of 4 size → r ≡ bytes_of 4 reserved → c ≡ bytes_of 8 code → length g ≡ 16
    → length t ≡ 16 → size < 2 ^ 32 → code < 2 ^ 64
    → Laid w size reserved g t code f
laid w s r g t c f size reserved code whole es er ec lg lt fits_size fits_code =
    let ls : length s ≡ 4 = ap length es ∙ length-bytes_of 4 size in
    let lr : length r ≡ 4 = ap length er ∙ length-bytes_of 4 reserved in
    let lc : length c ≡ 8 = ap length ec ∙ length-bytes_of 8 code in
    let parts : s ++ r ++ g ++ t ++ c ++ f ≡ (s ++ r ++ g) ++ (t ++ (c ++ f)) =
    simp append_assoc in
    let front : drop 24 w ≡ t ++ (c ++ f) =
    ap (drop 24) (whole ∙ parts)
    ∙ drop_at (s ++ r ++ g) (t ++ (c ++ f)) 24 (simp length-append (omega arith)) in
    let rest : drop 40 w ≡ c ++ f =
    sym (drop-drop 16 24 w) ∙ ap (drop 16) front ∙ drop_at t (c ++ f) 16 lt in
    record {
      long = ap length whole ∙ simp length-append (omega arith);
      total = number_at_in w [] s size (r ++ (g ++ (t ++ (c ++ f)))) 0 4
          (whole ∙ simp append_assoc) es refl fits_size;
      guid_is = field_in w (s ++ r) g (t ++ (c ++ f)) 8 16 (whole ∙ simp append_assoc)
          (simp length-append (omega arith)) lg;
      time_is = front ∙ ap (λ l. t ++ l) (sym rest);
      code_is = number_at_in w (s ++ r ++ g ++ t) c code f 40 8 (whole ∙ simp append_assoc) ec
          (simp length-append (omega arith)) fits_code;
      part_is = sym (drop-drop 8 40 w) ∙ ap (drop 8) rest ∙ drop_at c f 8 lc;
    }

pub layout_laid : (reserved : ℕ) (v : ResultVar) → IsResult v
    → Laid (result_layout reserved v) (result_size v) reserved v.guid.bytes (time_bytes v.time)
    v.status.code (fmp_bytes v.fmp)
layout_laid reserved v is =
    laid (result_layout reserved v) (bytes_of 4 (result_size v)) (bytes_of 4 reserved)
    v.guid.bytes (time_bytes v.time) (bytes_of 8 v.status.code) (fmp_bytes v.fmp)
    (result_size v) reserved v.status.code refl refl refl refl is.guid refl is.size is.status

-- ---- the part on a payload

-- what stands in the part on a payload
pub record Part (w : List ℕ) (p : FmpResult) : Type 0 where
  pub version : number_at w 48 2 ≡ 1
  pub payload : get_or w 50 0 ≡ p.payload
  pub index : get_or w 51 0 ≡ p.index
  pub type_id : field w 52 16 ≡ p.type_id.bytes
  pub file : drop 68 w ≡ unit_bytes p.file ++ unit_bytes p.target
  pub long : length w ≡ 68 + text_size p.file + text_size p.target

pub part_of : (w : List ℕ) (p : FmpResult) → IsFmpResult p → drop 48 w ≡ fmp_bytes (Some p)
    → length w ≡ 48 + length (fmp_bytes (Some p)) → Part w p
part_of w p is e long =
    let texts : List ℕ = unit_bytes p.file ++ unit_bytes p.target in
    let moved : (k : ℕ) → get_or w (48 + k) 0 ≡ get_or (fmp_bytes (Some p)) k 0 =
    λ k. sym (get_or-drop 48 w k 0) ∙ ap (λ (l : List ℕ). get_or l k 0) e in
    let rest : drop 52 w ≡ p.type_id.bytes ++ texts =
    sym (drop-drop 4 48 w) ∙ ap (drop 4) e
    ∙ append_assoc p.type_id.bytes (unit_bytes p.file) (unit_bytes p.target) in
    record {
      version = number_moved w 48 0 2 ∙ ap (λ l. number_at l 0 2) e;
      payload = moved 2;
      index = moved 3;
      type_id = ap (take 16) rest ∙ take_at p.type_id.bytes texts 16 is.type_id;
      file = sym (drop-drop 16 52 w) ∙ ap (drop 16) rest
          ∙ drop_at p.type_id.bytes texts 16 is.type_id;
      long = omega (arith, long, fmp_size p, is.type_id);
    }

-- the places and texts of a part that was laid
file_read : (w : List ℕ) (p : FmpResult) → IsFmpResult p → Part w p → file_in w ≡ p.file
file_read w p is part =
    ap text_at_front part.file ∙ text_of p.file (unit_bytes p.target) is.file

target_rest : (w : List ℕ) (p : FmpResult) → IsFmpResult p → Part w p
    → drop (68 + text_size p.file) w ≡ unit_bytes p.target ++ []
target_rest w p is part =
    sym (drop-drop (text_size p.file) 68 w)
    ∙ ap (drop (text_size p.file)) part.file
    ∙ drop_at (unit_bytes p.file) (unit_bytes p.target) (text_size p.file)
    (length-unit_bytes p.file)
    ∙ sym (append-nil (unit_bytes p.target))

target_read : (w : List ℕ) (p : FmpResult) → IsFmpResult p → Part w p → target_in w ≡ p.target
target_read w p is part =
    ap (λ t. text_at_front (drop (68 + text_size t) w)) (file_read w p is part)
    ∙ ap text_at_front (target_rest w p is part) ∙ text_of p.target [] is.target

part_accepted : (w : List ℕ) (p : FmpResult) → IsFmpResult p → Part w p
    → first_refusal (fmp_rows w) ≡ None
part_accepted w p is part =
    let at : ℕ = 68 + text_size p.file in
    let last : ℕ = at + text_size p.target in
    let found : Found w at last = record {
      fields = none_refused (fmp_field_rows w) (
        le-ltb _ _ (omega (arith, part.long)),
        (not_from_true _ (eq-eqb _ _ part.version), tt),
      );
      file = ap (λ l. first_refusal (text_rows l)) part.file
          ∙ text_accepted p.file (unit_bytes p.target) is.file;
      place = ap (λ t. 68 + text_size t) (sym (file_read w p is part));
      target = ap (λ l. first_refusal (text_rows l)) (target_rest w p is part)
          ∙ text_accepted p.target [] is.target;
      behind = ap (λ t. at + text_size t) (sym (ap text_at_front (target_rest w p is part)
          ∙ text_of p.target [] is.target));
    } in
    none_behind w at last found part.long

abbrev part_made : ℕ → ℕ → List ℕ → List ℕ → List ℕ → FmpResult
part_made payload index type_id file target = record {
  payload = payload;
  index = index;
  type_id = record { bytes = type_id };
  file = file;
  target = target;
}

same_part : (a a' b b' : ℕ) (t t' f f' g g' : List ℕ) → a ≡ a' → b ≡ b' → t ≡ t' → f ≡ f'
    → g ≡ g' → part_made a b t f g ≡ part_made a' b' t' f' g'
same_part a a' b b' t t' f f' g g' ea eb et ef eg = rw (ea, eb, et, ef, eg) refl

part_read : (w : List ℕ) (p : FmpResult) → IsFmpResult p → Part w p → fmp_fields w ≡ p
part_read w p is part =
    same_part (get_or w 50 0) p.payload (get_or w 51 0) p.index (field w 52 16) p.type_id.bytes
    (file_in w) p.file (target_in w) p.target part.payload part.index part.type_id
    (file_read w p is part) (target_read w p is part)

-- ---- a whole result

-- where the header is not refused, the part on a payload decides
header_passed : (w : List ℕ) → 48 ≤ length w → number_at w 0 4 ≡ length w
    → first_refusal (result_rows w)
    ≡ first_refusal (cond (length w == 48) [] (fmp_rows w))
header_passed w long total =
    rw (le-ltb _ _ long, not_from_true _ (eq-eqb _ _ total)) refl

-- what the part is: none, or this one
read_part : (w : List ℕ) (o : Option FmpResult) → IfSome o IsFmpResult
    → drop 48 w ≡ fmp_bytes o → length w ≡ 48 + length (fmp_bytes o)
    → (first_refusal (cond (length w == 48) [] (fmp_rows w)) ≡ None)
    × (cond (length w == 48) None (Some (fmp_fields w)) ≡ o)
read_part w None is e long =
    let test : (length w == 48) ≡ true = eq-eqb _ _ long in (
      ap (λ b. first_refusal (cond b [] (fmp_rows w))) test,
      ap (λ b. cond b None (Some (fmp_fields w))) test,
    )
read_part w (Some p) is e long = by_test (length w == 48) refl
  where
    part : Part w p
    part = part_of w p is e long

    by_test : (z : Bool) → (length w == 48) ≡ z
        → (first_refusal (cond (length w == 48) [] (fmp_rows w)) ≡ None)
        × (cond (length w == 48) None (Some (fmp_fields w)) ≡ Some p)
    by_test true test =
        let size : length w ≡ 48 = eqb-true _ _ test in
        absurd (omega (arith, size, part.long))
    by_test false test = (
      ap (λ b. first_refusal (cond b [] (fmp_rows w))) test ∙ part_accepted w p is part,
      ap (λ b. cond b None (Some (fmp_fields w))) test ∙ ap Some (part_read w p is part),
    )

pub result_accepted : (reserved : ℕ) (v : ResultVar) → reserved < 2 ^ 32 → IsResult v
    → first_refusal (result_rows (result_layout reserved v)) ≡ None
result_accepted reserved v fits is =
    let w : List ℕ = result_layout reserved v in
    let lay = layout_laid reserved v is in
    header_passed w (omega (arith, lay.long)) (lay.total ∙ sym lay.long)
    ∙ (read_part w v.fmp is.fmp lay.part_is lay.long).0

pub result_again : (reserved : ℕ) (v : ResultVar) → reserved < 2 ^ 32 → IsResult v
    → result_fields (result_layout reserved v) ≡ v
result_again reserved v fits is =
    let w : List ℕ = result_layout reserved v in
    let lay = layout_laid reserved v is in
    same_made (field w 8 16) v.guid.bytes (time_at_front (drop 24 w)) v.time (number_at w 40 8)
    v.status.code (cond (length w == 48) None (Some (fmp_fields w))) v.fmp lay.guid_is
    (ap time_at_front lay.time_is ∙ time_front (time_bytes v.time) (drop 40 w) refl ∙ is.time)
    lay.code_is (read_part w v.fmp is.fmp lay.part_is lay.long).1

-- ---- what is read is written back

moment_back : (b : List ℕ) → IsBytes b → 40 ≤ length b
    → time_bytes (time_at_front (drop 24 b)) ≡ field b 24 16
moment_back b is long =
    let sixteen_long : length (take 16 (drop 24 b)) ≡ 16 = length-field b 24 16 long in
    ap time_bytes (ap time_at_front (sym (take-append-drop 16 (drop 24 b)))
    ∙ time_front (take 16 (drop 24 b)) (drop 16 (drop 24 b)) sixteen_long)
    ∙ writes_back (field b 24 16) sixteen_long (IsBytes-field b 24 16 is)

header_back : (b : List ℕ) (o : Option FmpResult) → IsBytes b → 48 ≤ length b
    → number_at b 0 4 ≡ length b → fmp_bytes o ≡ drop 48 b
    → result_layout (number_at b 4 4)
    (made (field b 8 16) (time_at_front (drop 24 b)) (number_at b 40 8) o) ≡ b
header_back b o is long total part =
    let size : 48 + length (fmp_bytes o) ≡ number_at b 0 4 =
    omega (arith, ap length part, length-drop 48 b, total, long) in
    let four : bytes_of 4 (48 + length (fmp_bytes o)) ≡ take 4 b =
    ap (bytes_of 4) size ∙ bytes_of-number_at b 0 4 is (omega arith) in
    let front = next_field b _ 8 16 (next_number b _ 4 4 is (omega arith) four) in
    let later = next_field b _ 24 16 front in
    ap (λ m. bytes_of 4 (48 + length (fmp_bytes o)) ++ bytes_of 4 (number_at b 4 4)
    ++ field b 8 16 ++ m ++ bytes_of 8 (number_at b 40 8) ++ fmp_bytes o)
    (moment_back b is (omega arith))
    ∙ ap (λ l. l ++ fmp_bytes o) (next_number b _ 40 8 is long later)
    ∙ ap (λ l. take 48 b ++ l) part ∙ take-append-drop 48 b

-- the part on a payload of bytes that are not refused
part_back : (b : List ℕ) → IsBytes b → first_refusal (fmp_rows b) ≡ None
    → fmp_bytes (Some (fmp_fields b)) ≡ drop 48 b
part_back b is none =
    let behind = first-parts (fmp_field_rows b)
    (text_rows (drop 68 b) ++ (text_rows (drop (target_place b) b) ++ fmp_end_rows b)) none in
    let texts = first-parts (text_rows (drop 68 b))
    (text_rows (drop (target_place b) b) ++ fmp_end_rows b) behind.1 in
    let target = first-parts (text_rows (drop (target_place b) b)) (fmp_end_rows b) texts.1 in
    let fields = passed (fmp_field_rows b) behind.0 in
    let long : 68 ≤ length b = ltb-false _ _ fields.0 in
    let version : number_at b 48 2 ≡ 1 = eqb-true _ _ (not-false _ fields.1.0) in
    let end : length b ≡ end_place b =
    eqb-true _ _ (not-false _ (passed (fmp_end_rows b) target.1).0) in
    let d : List ℕ = drop 48 b in
    let size : length d + 48 ≡ length b = omega (arith, length-drop 48 b, long) in
    let n : ℕ = text_size (file_in b) in
    let m : ℕ = text_size (target_in b) in
    let two : bytes_of 2 1 ≡ take 2 d =
    ap (bytes_of 2) (sym version ∙ number_moved b 48 0 2)
    ∙ bytes_of-number_at d 0 2 (IsBytes-drop 48 b is) (omega (arith, size, long)) in
    let twenty : bytes_of 2 1 ++ get_or d 2 0 ∷ get_or d 3 0 ∷ field d 4 16 ≡ take 20 d =
    next_field d (bytes_of 2 1 ++ get_or d 2 0 ∷ get_or d 3 0 ∷ []) 4 16
    (next_byte d (bytes_of 2 1 ++ get_or d 2 0 ∷ []) 3 (omega (arith, size, long))
    (next_byte d (bytes_of 2 1) 2 (omega (arith, size, long)) two)) in
    let file : unit_bytes (file_in b) ≡ take n (drop 20 d) =
    sym (text_back (drop 68 b) (IsBytes-drop 68 b is) texts.0)
    ∙ ap (take n) (sym (drop-drop 20 48 b)) in
    let last : unit_bytes (target_in b) ≡ take m (drop (20 + n) d) =
    sym (text_back (drop (target_place b) b) (IsBytes-drop (target_place b) b is) target.0)
    ∙ ap (λ k. take m (drop k b)) (omega arith) ∙ ap (take m) (sym (drop-drop (20 + n) 48 b)) in
    let byte : (k : ℕ) → get_or b (48 + k) 0 ≡ get_or d k 0 = λ k. sym (get_or-drop 48 b k 0) in
    let type_id : field b 52 16 ≡ field d 4 16 = ap (take 16) (sym (drop-drop 4 48 b)) in
    ap (λ x. bytes_of 2 1 ++ x ∷ get_or b 51 0 ∷ field b 52 16 ++ unit_bytes (file_in b)
    ++ unit_bytes (target_in b)) (byte 2)
    ∙ ap (λ y. bytes_of 2 1 ++ get_or d 2 0 ∷ y ∷ field b 52 16 ++ unit_bytes (file_in b)
    ++ unit_bytes (target_in b)) (byte 3)
    ∙ ap (λ t. bytes_of 2 1 ++ get_or d 2 0 ∷ get_or d 3 0 ∷ t ++ unit_bytes (file_in b)
    ++ unit_bytes (target_in b)) type_id
    ∙ ap (λ l. l ++ unit_bytes (file_in b) ++ unit_bytes (target_in b)) twenty
    ∙ ap (λ l. take 20 d ++ l ++ unit_bytes (target_in b)) file
    ∙ ap (λ l. l ++ unit_bytes (target_in b)) (take_field d 20 n)
    ∙ ap (λ l. take (20 + n) d ++ l) last
    ∙ take_field d (20 + n) m
    ∙ take_all (20 + n + m) d (omega (arith, size, end))

pub result_back : (b : List ℕ) → IsBytes b → first_refusal (result_rows b) ≡ None
    → result_layout (number_at b 4 4) (result_fields b) ≡ b
result_back b is none = by_test (length b == 48) refl
  where
    long : 48 ≤ length b
    long = ltb-false _ _ (passed (result_rows b) none).0

    total : number_at b 0 4 ≡ length b
    total = eqb-true _ _ (not-false _ (passed (result_rows b) none).1.0)

    lay : Option FmpResult → List ℕ
    lay o = result_layout (number_at b 4 4)
        (made (field b 8 16) (time_at_front (drop 24 b)) (number_at b 40 8) o)

    by_test : (z : Bool) → (length b == 48) ≡ z
        → result_layout (number_at b 4 4) (result_fields b) ≡ b
    by_test true test =
        let size : length b ≡ 48 = eqb-true _ _ test in
        ap (λ z. lay (cond z None (Some (fmp_fields b)))) test
        ∙ header_back b None is long total
        (sym (drop_all 48 b (omega (arith, size))))
    by_test false test =
        let part : first_refusal (fmp_rows b) ≡ None =
        ap (λ z. first_refusal (cond z [] (fmp_rows b))) (sym test)
        ∙ sym (header_passed b long total) ∙ none in
        ap (λ z. lay (cond z None (Some (fmp_fields b)))) test
        ∙ header_back b (Some (fmp_fields b)) is long total (part_back b is part)
