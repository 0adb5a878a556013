-- A section is read in a window as in all the bytes behind the authentication data: the operations
-- up to its limit stand there, and whether a text that begins there ends is told by the zero byte.
use Rattle.std.proofs.Common.{◌≡◌, ℕ, zero, suc, ◌+◌, ◌-◌, ◌<◌, ◌≤◌, ◌⊎◌, inl, inr, Bool, true, false}
use Rattle.std.proofs.Common.{cond, not, ◌&&◌, ◌||◌, ◌==◌, nat_lt, List, [], ◌∷◌, ◌++◌, length, take}
use Rattle.std.proofs.Common.{drop, Option, Some, None, refl, sym, ap, subst, ◌∙◌, arith}
use Rattle.std.proofs.Common.{append_assoc}
use Rattle.std.proofs.lemmas.Bool.{cases_lt, le-ltb, lt-ltb, eq-eqb, cond-true}
use Rattle.std.proofs.lemmas.Bool.Decides.{nat_tests}
use Rattle.std.proofs.lemmas.List.{append-nil, drop-append-le, drop-drop, drop-take, drop_at}
use Rattle.std.proofs.lemmas.List.{drop_all, length-append, length-drop, length-take, take_all}
use Rattle.cu_base.specs.Refusals.{first_refusal}
use Rattle.dep_code.specs.declared.fault.DepWhy.{DepWhy}
use Rattle.dep_code.specs.declared.fault.DepWhy.TheVariants.{NoEnd, BadOpcode, CutOperand}
use Rattle.dep_code.specs.declared.fault.DepWhy.TheVariants.{LateDeclare, TooLong}
use Rattle.dep_code.specs.declared.limits.TheConstants.{MAX_SECTION_BYTES}
use Rattle.dep_code.specs.declared.op.Op.TheVariants.{End}
use Rattle.dep_code.specs.Operations.{is_nonzero, section_bytes}
use Rattle.dep_code.specs.Refusals.{BreaksOff, EndsWrong, IsRefused, place_rows, text_size}
use Rattle.dep_code.proofs.Fronts.{length_more}
use Rattle.image_parts.specs.declared.payload_header.TheConstants.{FIELD_BYTES}
use Rattle.image_parts.specs.declared.window.TheConstants.{SECTION_REACH}
use Rattle.image_parts.specs.Scan.{later_zero, window_of, window_size}
use Rattle.image_parts.specs.Section.{BeginsWithSection, IsOneSection, TakesSection}
use Rattle.image_parts.proofs.Lists.{carried}
use Rattle.image_parts.proofs.Windows.{has_zero, mark, window_front}

-- ---- texts

stops_by : (z h : Bool) (s l : ℕ) → (z || h) ≡ true → (h ≡ true → s < l)
    → cond (not z) (1 + s) 0 < suc l
stops_by true h s l e next = omega arith
stops_by false h s l e next = omega (arith, next e)

stops : (t : List ℕ) → has_zero t ≡ true → text_size t < length t
stops [] e = absurd cc
stops (b ∷ t) e = stops_by (b == 0) (has_zero t) (text_size t) (length t) e (stops t)

passes_by : (z h : Bool) (s l : ℕ) → (z || h) ≡ false → (h ≡ false → l ≤ s)
    → suc l ≤ cond (not z) (1 + s) 0
passes_by true h s l e next = absurd cc
passes_by false h s l e next = omega (arith, next e)

passes : (t : List ℕ) → has_zero t ≡ false → length t ≤ text_size t
passes [] e = omega arith
passes (b ∷ t) e = passes_by (b == 0) (has_zero t) (text_size t) (length t) e (passes t)

-- a text of s of l bytes, of which a window of w bytes with k of them shows p: it ends before byte
-- k, or behind it, or nowhere
abbrev Shows : ℕ → ℕ → ℕ → ℕ → ℕ → Type 0
Shows k s p l w = ((p ≡ s) × (s < k))
    ⊎ ((k ≤ s) × (k ≤ p) × (((s < l) × (p < w)) ⊎ ((l ≤ s) × (w ≤ p))))

shows_end : (z : Bool) (t : List ℕ) → has_zero t ≡ z
    → Shows 0 (text_size t) (text_size (mark z)) (length t) (length (mark z))
shows_end true t e = inr (omega arith, omega arith, inl (stops t e, omega arith))
shows_end false t e = inr (omega arith, omega arith, inr (passes t e, omega arith))

shows_more : (z : Bool) (k s p l w : ℕ) → Shows k s p l w
    → Shows (suc k) (cond z (1 + s) 0) (cond z (1 + p) 0) (suc l) (suc w)
shows_more true k s p l w (inl (e, low)) = inl (omega (arith, e), omega (arith, low))
shows_more true k s p l w (inr (a, b, inl (c, d))) =
    inr (omega (arith, a), omega (arith, b), inl (omega (arith, c), omega (arith, d)))
shows_more true k s p l w (inr (a, b, inr (c, d))) =
    inr (omega (arith, a), omega (arith, b), inr (omega (arith, c), omega (arith, d)))
shows_more false k s p l w h = inl (refl, omega arith)

-- the front of a text, and a zero byte where one stands behind it
abbrev shown : ℕ → List ℕ → List ℕ
shown k t = take k t ++ later_zero (drop k t)

text_shown : (k : ℕ) (t : List ℕ)
    → Shows k (text_size t) (text_size (shown k t)) (length t) (length (shown k t))
text_shown zero t = shows_end (has_zero t) t refl
text_shown (suc k) [] = inl (refl, omega arith)
text_shown (suc k) (b ∷ t) =
    shows_more (is_nonzero b) k (text_size t) (text_size (shown k t)) (length t)
    (length (shown k t)) (text_shown k t)

-- ---- operations

-- the size of an operation by its kind and the text that would be its operand
abbrev size_by : Bool → Bool → Bool → ℕ → ℕ
size_by guid text wide s = cond guid 17 (cond text (s + 2) (cond wide 5 1))

abbrev size_of : ℕ → ℕ → ℕ
size_of b s = size_by (b == 0) (b == 2) ((b == 1) || (b == 14)) s

same_cut : (g t w : Bool) (s p l m : ℕ) → 17 ≤ l → 17 ≤ m
    → nat_lt m (p + 2) ≡ nat_lt l (s + 2) → nat_lt m (size_by g t w p) ≡ nat_lt l (size_by g t w s)
same_cut true t w s p l m hl hm e =
    le-ltb m 17 (omega (arith, hm)) ∙ sym (le-ltb l 17 (omega (arith, hl)))
same_cut false true w s p l m hl hm e = e
same_cut false false true s p l m hl hm e =
    le-ltb m 5 (omega (arith, hm)) ∙ sym (le-ltb l 5 (omega (arith, hl)))
same_cut false false false s p l m hl hm e =
    le-ltb m 1 (omega (arith, hm)) ∙ sym (le-ltb l 1 (omega (arith, hl)))

same_past : (g t w : Bool) (n s p : ℕ)
    → nat_lt MAX_SECTION_BYTES (n + (p + 2)) ≡ nat_lt MAX_SECTION_BYTES (n + (s + 2))
    → nat_lt MAX_SECTION_BYTES (n + size_by g t w p) ≡ nat_lt MAX_SECTION_BYTES
    (n + size_by g t w s)
same_past true t w n s p e = refl
same_past false true w n s p e = e
same_past false false true n s p e = refl
same_past false false false n s p e = refl

text_cut : (k s p l w : ℕ) → Shows k s p l w → k ≤ w → k < l
    → nat_lt (suc w) (p + 2) ≡ nat_lt (suc l) (s + 2)
text_cut k s p l w (inl (e, low)) there long =
    le-ltb (suc w) (p + 2) (omega (arith, e, low, there))
    ∙ sym (le-ltb (suc l) (s + 2) (omega (arith, low, long)))
text_cut k s p l w (inr (a, b, inl (c, d))) there long =
    le-ltb (suc w) (p + 2) (omega (arith, d)) ∙ sym (le-ltb (suc l) (s + 2) (omega (arith, c)))
text_cut k s p l w (inr (a, b, inr (c, d))) there long =
    lt-ltb (suc w) (p + 2) (omega (arith, d)) ∙ sym (lt-ltb (suc l) (s + 2) (omega (arith, c)))

text_past : (n k s p l w : ℕ) → Shows k s p l w → n + k ≡ 4111
    → nat_lt MAX_SECTION_BYTES (n + (p + 2)) ≡ nat_lt MAX_SECTION_BYTES (n + (s + 2))
text_past n k s p l w (inl (e, low)) sum = rw e refl
text_past n k s p l w (inr (a, b, c)) sum =
    lt-ltb MAX_SECTION_BYTES (n + (p + 2)) (omega (arith, b, sum))
    ∙ sym (lt-ltb MAX_SECTION_BYTES (n + (s + 2)) (omega (arith, a, sum)))

-- ---- rows

abbrev refusal_by : ℕ → ℕ → Bool → Bool → Bool → Option (ℕ × DepWhy)
refusal_by n b empty cut past =
    cond (n == MAX_SECTION_BYTES) (Some (n, TooLong))
    (cond empty (Some (n, NoEnd))
    (cond (nat_lt 14 b) (Some (n, BadOpcode))
    (cond cut (Some (n, CutOperand))
    (cond past (Some (n, TooLong))
    (cond ((b == 14) && nat_lt 0 n) (Some (n, LateDeclare)) None)))))

not_empty : (n : ℕ) → (suc n == 0) ≡ false
not_empty n = grind (arith, nat_tests)

refused_by : (b : ℕ) (t : List ℕ) (n : ℕ) → first_refusal (place_rows (b ∷ t) n) ≡ refusal_by n b
    (suc (length t) == 0) (nat_lt (suc (length t)) (size_of b (text_size t)))
    (nat_lt MAX_SECTION_BYTES (n + size_of b (text_size t)))
refused_by b t n = refl

same_at : (r : List ℕ) (k n : ℕ) → 16 ≤ k → suc k < length r → n + k ≡ 4111
    → first_refusal (place_rows (shown (suc k) r) n) ≡ first_refusal (place_rows r n)
same_at [] k n some long sum = absurd (omega (arith, long))
same_at (b ∷ t) k n some long sum =
    let s = text_size t in
    let p = text_size (shown k t) in
    let front = length-take k t in
    let there : k ≤ length (shown k t) =
    omega (arith, length-append (take k t) (later_zero (drop k t)), front, long) in
    let shows = text_shown k t in
    let cut : nat_lt (suc (length (shown k t))) (size_of b p) ≡ nat_lt (suc (length t))
    (size_of b s) =
    same_cut (b == 0) (b == 2) ((b == 1) || (b == 14)) s p (suc (length t))
    (suc (length (shown k t))) (omega (arith, long, some)) (omega (arith, there, some))
    (text_cut k s p (length t) (length (shown k t)) shows there (omega (arith, long))) in
    let past : nat_lt MAX_SECTION_BYTES (n + size_of b p) ≡ nat_lt MAX_SECTION_BYTES
    (n + size_of b s) =
    same_past (b == 0) (b == 2) ((b == 1) || (b == 14)) n s p
    (text_past n k s p (length t) (length (shown k t)) shows sum) in
    let empty : (suc (length (shown k t)) == 0) ≡ (suc (length t) == 0) =
    not_empty (length (shown k t)) ∙ sym (not_empty (length t)) in
    refused_by b (shown k t) n
    ∙ ap (λ (e : Bool). refusal_by n b e (nat_lt (suc (length (shown k t))) (size_of b p))
    (nat_lt MAX_SECTION_BYTES (n + size_of b p))) empty
    ∙ ap (λ (c : Bool). refusal_by n b (suc (length t) == 0) c
    (nat_lt MAX_SECTION_BYTES (n + size_of b p))) cut
    ∙ ap (λ (q : Bool). refusal_by n b (suc (length t) == 0)
    (nat_lt (suc (length t)) (size_of b s)) q) past ∙ sym (refused_by b t n)

at_limit : (rest : List ℕ) (n : ℕ) → n ≡ MAX_SECTION_BYTES
    → first_refusal (place_rows rest n) ≡ Some (n, TooLong)
at_limit rest n e = cond-true _ _ _ (eq-eqb n MAX_SECTION_BYTES e)

-- a window from a place on
shown_from : (m n : ℕ) (rest : List ℕ) → n + m ≡ SECTION_REACH → SECTION_REACH < length rest
    → drop n (window_of true rest) ≡ shown m (drop n rest)
shown_from m n rest sum long =
    let later : drop SECTION_REACH rest ≡ drop m (drop n rest) =
    ap (λ (k : ℕ). drop k rest) (sym sum) ∙ sym (drop-drop m n rest) in
    let front : drop n (take SECTION_REACH rest) ≡ take m (drop n rest) =
    ap (λ (k : ℕ). drop n (take k rest)) (sym sum) ∙ drop-take n m rest in
    drop-append-le n (take SECTION_REACH rest) (later_zero (drop SECTION_REACH rest))
    (omega (arith, length-take SECTION_REACH rest, sum, long))
    ∙ ap (λ (l : List ℕ). l ++ later_zero (drop SECTION_REACH rest)) front
    ∙ ap (λ (l : List ℕ). take m (drop n rest) ++ later_zero l) later

short_window : (rest : List ℕ) → length rest ≤ SECTION_REACH → window_of true rest ≡ rest
short_window rest short =
    rw (take_all SECTION_REACH rest short, drop_all SECTION_REACH rest short) (append-nil rest)

long_rows : (rest : List ℕ) (n : ℕ) → n < MAX_SECTION_BYTES → SECTION_REACH < length rest
    → first_refusal (place_rows (drop n (window_of true rest)) n)
    ≡ first_refusal (place_rows (drop n rest) n)
long_rows rest n low long =
    let k = 4111 - n in
    ap (λ (l : List ℕ). first_refusal (place_rows l n))
    (shown_from (suc k) n rest (omega (arith, low)) long)
    ∙ same_at (drop n rest) k n (omega (arith, low)) (omega (arith, length-drop n rest, low, long))
    (omega (arith, low))

same_rows : (rest : List ℕ) (n : ℕ) → n ≤ MAX_SECTION_BYTES
    → first_refusal (place_rows (drop n (window_of true rest)) n)
    ≡ first_refusal (place_rows (drop n rest) n)
same_rows rest n within =
    elim (cases_lt SECTION_REACH (length rest)) [
      | inl long ↦
          elim (cases_lt n MAX_SECTION_BYTES) [
            | inl low ↦ long_rows rest n low long
            | inr full ↦
                let e : n ≡ MAX_SECTION_BYTES = omega (arith, full, within) in
                at_limit (drop n (window_of true rest)) n e ∙ sym (at_limit (drop n rest) n e)
          ]
      | inr short ↦
          ap (λ (l : List ℕ). first_refusal (place_rows (drop n l) n)) (short_window rest short)
    ]

-- ---- sections

breaks_off : (rest : List ℕ) (at : ℕ) (why : DepWhy) → BreaksOff (window_of true rest) at why
    → BreaksOff rest at why
breaks_off rest at why h =
    let front = section_bytes h.ops in
    let n = length front in
    let low : n ≤ MAX_SECTION_BYTES = h.front.within in
    let here : drop n (window_of true rest) ≡ h.rest =
    ap (drop n) h.front.whole ∙ drop_at front h.rest n refl in
    record {
      ops = h.ops;
      rest = drop n rest;
      front = record {
        kept = h.front.kept;
        within = low;
        whole = carried (window_of true rest) rest front h.rest h.front.whole
            (window_front true rest n (omega (arith, low)));
      };
      refused = sym (same_rows rest n low)
          ∙ ap (λ (l : List ℕ). first_refusal (place_rows l n)) here ∙ h.refused;
    }

ends_wrong : (rest : List ℕ) (at : ℕ) (why : DepWhy) → EndsWrong (window_of true rest) at why
    → EndsWrong rest at why
ends_wrong rest at why h =
    let ops = section_bytes h.before in
    let end = section_bytes (End ∷ []) in
    let front = ops ++ end in
    let n = length front in
    let low : n ≤ MAX_SECTION_BYTES =
    omega (arith, h.within, length_more h.before End, length-append ops end) in
    let whole : window_of true rest ≡ front ++ h.rest =
    h.front.whole ∙ sym (append_assoc ops end h.rest) in
    record {
      before = h.before;
      rest = drop n rest;
      front = record {
        kept = h.front.kept;
        within = h.front.within;
        whole = carried (window_of true rest) rest front h.rest whole
            (window_front true rest n (omega (arith, low)))
            ∙ append_assoc ops end (drop n rest);
      };
      within = h.within;
      refused = h.refused;
    }

pub refused_whole : (rest : List ℕ) (at : ℕ) (why : DepWhy) → IsRefused (window_of true rest) at why
    → IsRefused rest at why
refused_whole rest at why (inl h) = inl (breaks_off rest at why h)
refused_whole rest at why (inr h) = inr (ends_wrong rest at why h)

pub one_limit : (bytes : List ℕ) (size : ℕ) → BeginsWithSection bytes size → size ≤ MAX_SECTION_BYTES
one_limit bytes size h = omega (arith, h.section.is_section.limit, length-take size bytes, h.there)

pub section_limit : (due : Bool) (bytes : List ℕ) (size : ℕ) → TakesSection due bytes size
    → size + FIELD_BYTES ≤ window_size due
section_limit true bytes size h = omega (arith, one_limit bytes size h)
section_limit false bytes size h = omega (arith, h)

begins_whole : (rest : List ℕ) (size : ℕ) → BeginsWithSection (window_of true rest) size
    → BeginsWithSection rest size
begins_whole rest size h =
    let low = one_limit (window_of true rest) size h in
    let same = window_front true rest size (omega (arith, low)) in
    record {
      there = omega (
        arith,
        h.there,
        ap length same,
        length-take size (window_of true rest),
        length-take size rest,
      );
      section = subst IsOneSection same h.section;
    }

pub takes_whole : (due : Bool) (rest : List ℕ) (size : ℕ)
    → TakesSection due (window_of due rest) size → TakesSection due rest size
takes_whole true rest size h = begins_whole rest size h
takes_whole false rest size h = h
