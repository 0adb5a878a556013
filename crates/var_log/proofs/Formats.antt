-- What the moves of a format leave of the banks in each image.
use Rattle.std.proofs.Common.{◌≡◌, ◌≢◌, inl, inr, ℕ, ◌<◌, List, [], ◌∷◌, ◌++◌, length}
use Rattle.std.proofs.Common.{get_or, take, drop, refl, sym, ap, ◌∙◌, arith, Some, None}
use Rattle.std.proofs.Common.{Bool, true, false, nat_eq, ◌&&◌}
use Rattle.std.proofs.lemmas.Bool.{cases_eq}
use Rattle.std.proofs.lemmas.List.{drop_more, take-append-drop, drop-drop}
use Rattle.cu_base.specs.Fields.{field}
use Rattle.bench_model.specs.Regions.{AgreesOutside, IsImage}
use Rattle.bench_model.specs.Bench.{BenchValue, ChangesRegion, IsRegionStable, region_at}
use Rattle.bench_model.proofs.ImageLemmas.{agrees_back, image_of_stable}
use Rattle.var_log.specs.declared.limits.TheConstants.{OPEN_GATE, CLOSED_GATE}
use Rattle.var_log.specs.Records.{Entry}
use Rattle.var_log.specs.Banks.{is_open, is_headed, store_of, store_in, entries_of, empty_store}
use Rattle.var_log.specs.Banks.{empty_bank}
use Rattle.var_log.specs.Banks.{log_bank, generation_of}
use Rattle.var_log.specs.Moves.{IsGated, IsOpening, IsOpened, IsShut}
use Rattle.var_log.specs.Logs.{IsUnheaded, IsEmptyOrNone, IsEmptyLog}
use Rattle.var_log.proofs.Splits.{closed_end}
use Rattle.var_log.proofs.BankLemmas.{store_at, eqb-no, made_of, store_is}
use Rattle.var_log.proofs.Appends.{image_elsewhere}

and_no : (a b : Bool) → b ≡ false → (a && b) ≡ false
and_no true b h = h
and_no false b h = refl

unheaded : (x : List ℕ) → is_headed x ≡ false → is_open x ≡ false
unheaded x lacks = and_no (nat_eq (get_or x 0 0) OPEN_GATE) (is_headed x) lacks

pub gateless : (x : List ℕ) → get_or x 0 0 ≢ OPEN_GATE → is_open x ≡ false
gateless x shut = rw (eqb-no _ _ shut) refl

-- the header depends on what stands behind the gate
pub head_behind : (old x : List ℕ) → drop 1 x ≡ drop 1 old → is_headed x ≡ is_headed old
head_behind old x same =
    let named : field x 1 3 ≡ field old 1 3 = ap (take 3) same in
    let format : field x 4 4 ≡ field old 4 4 =
    ap (take 4) (sym (drop-drop 3 1 x) ∙ ap (drop 3) same ∙ drop-drop 3 1 old) in
    rw (named, format) refl

pub head_outside : (old x : List ℕ) → AgreesOutside 0 1 old x → is_headed x ≡ is_headed old
head_outside old x agrees = head_behind old x (agrees_back 0 1 old x agrees)

pub none_open : (banks : ℕ → List ℕ) → is_open (banks 0) ≡ false → is_open (banks 1) ≡ false
    → store_of banks ≡ None
unfolding store_of
none_open banks first second = rw (first, second) refl

-- ---- an empty bank

shape : (old x : List ℕ) → IsGated 0 empty_bank old x → get_or x 0 0 ≡ OPEN_GATE → 0 < length x
    → x ≡ OPEN_GATE ∷ (empty_bank ++ drop 16 (drop 1 x))
shape old x gated gate some =
    drop_more x 0 0 some ∙ ap (λ (g : ℕ). g ∷ drop 1 x) gate
    ∙ ap (λ (l : List ℕ). OPEN_GATE ∷ l)
    (sym (take-append-drop 16 (drop 1 x)) ∙ ap (λ (l : List ℕ). l ++ drop 16 (drop 1 x)) gated.behind)

empty_is : (rest : List ℕ) → entries_of (OPEN_GATE ∷ (empty_bank ++ rest)) ≡ []
empty_is rest = closed_end (length (OPEN_GATE ∷ (empty_bank ++ rest))) 2 None (CLOSED_GATE ∷ rest) refl

first_taken : (banks : ℕ → List ℕ) → is_open (banks 0) ≡ true → is_open (banks 1) ≡ false
    → log_bank banks ≡ Some 0
first_taken banks first second = rw (first, second) refl

empty_store_is : (bank : List ℕ) → entries_of bank ≡ [] → generation_of bank ≡ 1
    → store_in bank ≡ empty_store
unfolding made_of
empty_store_is bank none one =
    store_is bank ∙ ap (λ (es : List Entry). made_of es (generation_of bank)) none ∙ ap (made_of []) one

pub fresh_store : (banks : ℕ → List ℕ) (rest : List ℕ) → banks 0 ≡ OPEN_GATE ∷ (empty_bank ++ rest)
    → is_open (banks 1) ≡ false → store_of banks ≡ Some empty_store
fresh_store banks rest is shut =
    let opens : is_open (banks 0) ≡ true = ap is_open is in
    store_at banks 0 (first_taken banks opens shut)
    ∙ ap Some (empty_store_is (banks 0) (ap entries_of is ∙ empty_is rest) (ap generation_of is))

-- ---- the exits

-- bank 1 alone was written at its gate
pub first_exit : (s0 s1 : BenchValue) → (s0.contents.told ≡ true → IsUnheaded s0) → ChangesRegion 1 s0 s1
    → (IsRegionStable 1 s0 → (image : List ℕ) → IsImage (region_at s1.contents 1) image
    → AgreesOutside 0 1 (s0.contents.bytes 1) image)
    → IsEmptyOrNone s1
first_exit s0 s1 blank frame images = λ image is.
    let b = blank (sym frame.told ∙ (is 0).told) in
    let first = image_elsewhere 1 s0 s1 frame 0 (λ e. absurd cc) b.first (image 0) (is 0) in
    let second = images b.second (image 1) (is 1) in
    inl (none_open image
    (unheaded (image 0) (ap is_headed first ∙ b.heads 0 (omega arith)))
    (unheaded (image 1) (head_outside _ _ second ∙ b.heads 1 (omega arith))))

shut_bank : (old x : List ℕ) → IsShut 0 old x → is_open x ≡ false
shut_bank old x shut = ap (λ (b : ℕ). nat_eq b OPEN_GATE && is_headed x) shut.gate

-- and then bank 0 at its gate
pub second_exit : (s0 s1 s2 : BenchValue) → (s0.contents.told ≡ true → IsUnheaded s0)
    → ChangesRegion 1 s0 s1 → IsRegionStable 1 s1
    → (s1.contents.told ≡ true → IsShut 0 (s0.contents.bytes 1) (s1.contents.bytes 1))
    → ChangesRegion 0 s1 s2
    → (IsRegionStable 0 s1 → (image : List ℕ) → IsImage (region_at s2.contents 0) image
    → AgreesOutside 0 1 (s1.contents.bytes 0) image)
    → IsEmptyOrNone s2
second_exit s0 s1 s2 blank frame1 stable done frame2 images = λ image is.
    let told1 : s1.contents.told ≡ true = sym frame2.told ∙ (is 0).told in
    let b = blank (sym frame1.told ∙ told1) in
    let still : IsRegionStable 0 s1 = record {
      clean = λ m. ap (λ (f : ℕ → Bool). f m) (frame1.dirty 0 (λ e. absurd cc)) ∙ b.first.clean m;
    } in
    let second = image_elsewhere 0 s1 s2 frame2 1 (λ e. absurd cc) stable (image 1) (is 1) in
    let first = images still (image 0) (is 0) in
    inl (none_open image
    (unheaded (image 0) (head_outside _ _ first
    ∙ ap is_headed (frame1.bytes 0 (λ e. absurd cc)) ∙ b.heads 0 (omega arith)))
    (ap is_open second ∙ shut_bank _ _ (done told1)))

-- and then the empty log in it
pub third_exit : (s0 s1 s2 s3 : BenchValue) → IsRegionStable 1 s1
    → (s1.contents.told ≡ true → IsShut 0 (s0.contents.bytes 1) (s1.contents.bytes 1))
    → ChangesRegion 0 s1 s2 → IsRegionStable 0 s2
    → (s2.contents.told ≡ true → IsShut 0 (s1.contents.bytes 0) (s2.contents.bytes 0))
    → ChangesRegion 0 s2 s3 → 0 < length (s2.contents.bytes 0)
    → (IsRegionStable 0 s2 → (image : List ℕ) → IsImage (region_at s3.contents 0) image
    → IsOpening 0 empty_bank (s2.contents.bytes 0) image)
    → IsEmptyOrNone s3
third_exit s0 s1 s2 s3 stable1 done1 frame2 stable2 done2 frame3 some images = λ image is.
    let told2 : s2.contents.told ≡ true = sym frame3.told ∙ (is 0).told in
    let told1 : s1.contents.told ≡ true = sym frame2.told ∙ told2 in
    let still : IsRegionStable 1 s2 = record {
      clean = λ m. ap (λ (f : ℕ → Bool). f m) (frame2.dirty 1 (λ e. absurd cc)) ∙ stable1.clean m;
    } in
    let second = image_elsewhere 0 s2 s3 frame3 1 (λ e. absurd cc) still (image 1) (is 1)
    ∙ frame2.bytes 1 (λ e. absurd cc) in
    let shut1 : is_open (image 1) ≡ false = ap is_open second ∙ shut_bank _ _ (done1 told1) in
    let shut0 = done2 told2 in
    elim (images stable2 (image 0) (is 0)) [
      | inl agrees ↦ inl (none_open image (gateless (image 0) (λ e. absurd
          (omega (arith, agrees.same 0 (inl (omega arith)), shut0.gate, e)))) shut1)
      | inr gated ↦ elim (cases_eq (get_or (image 0) 0 0) OPEN_GATE) [
        | inl opens ↦ inr (fresh_store image _
            (shape _ (image 0) gated opens (omega (arith, gated.outside.long, some))) shut1)
        | inr shut ↦ inl (none_open image (gateless (image 0) shut) shut1)
      ]
    ]

pub done_exit : (s0 s1 s2 s3 : BenchValue) → IsRegionStable 1 s1
    → (s1.contents.told ≡ true → IsShut 0 (s0.contents.bytes 1) (s1.contents.bytes 1))
    → ChangesRegion 0 s1 s2 → ChangesRegion 0 s2 s3 → IsRegionStable 0 s3
    → 0 < length (s2.contents.bytes 0)
    → (s3.contents.told ≡ true → IsOpened 0 empty_bank (s2.contents.bytes 0) (s3.contents.bytes 0))
    → IsEmptyLog s3
done_exit s0 s1 s2 s3 stable1 done1 frame2 frame3 stable3 some done = λ image is.
    let told3 : s3.contents.told ≡ true = (is 0).told in
    let told2 : s2.contents.told ≡ true = sym frame3.told ∙ told3 in
    let told1 : s1.contents.told ≡ true = sym frame2.told ∙ told2 in
    let still : IsRegionStable 1 s2 = record {
      clean = λ m. ap (λ (f : ℕ → Bool). f m) (frame2.dirty 1 (λ e. absurd cc)) ∙ stable1.clean m;
    } in
    let second = image_elsewhere 0 s2 s3 frame3 1 (λ e. absurd cc) still (image 1) (is 1)
    ∙ frame2.bytes 1 (λ e. absurd cc) in
    let shut1 : is_open (image 1) ≡ false = ap is_open second ∙ shut_bank _ _ (done1 told1) in
    let first = image_of_stable (region_at s3.contents 0) (image 0) stable3 (is 0) in
    let opened = done told3 in
    fresh_store image _ (first
    ∙ shape _ (s3.contents.bytes 0) opened.gated opened.gate (omega (arith, opened.gated.outside.long, some)))
    shut1
