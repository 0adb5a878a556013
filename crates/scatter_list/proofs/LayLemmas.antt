-- What lies in memory after a list was laid.
use Rattle.std.proofs.Common.{◌≡◌, ℕ, ◌+◌, ◌-◌, ◌*◌, ◌%◌, ◌^◌, ◌<◌, ◌≤◌, List, [], ◌++◌}
use Rattle.std.proofs.Common.{length, Option, Some, None, Result, Ok, Err, OnOk, refl, sym, ap, ap₂}
use Rattle.std.proofs.Common.{subst, ◌∙◌, add-one, arith, inl, inr, append_assoc, true, nat_lt}
use Rattle.std.specs.Int.{div_ceil}
use Rattle.std.specs.Option.{option_or}
use Rattle.std.proofs.lemmas.Bool.{cases_lt}
use Rattle.std.proofs.lemmas.Bool.Decides.{nat_tests}
use Rattle.cu_base.specs.Fields.{bytes_of}
use Rattle.cu_base.specs.Refusals.{AnswersBy}
use Rattle.cu_base.specs.declared.faults.NoMemory.{NoMemory}
use Rattle.bench_model.specs.Memory.{lay_refusal, told_refusal, with_segment}
use Rattle.bench_model.specs.declared.faults.LayFault.{LayFault}
use Rattle.bench_model.specs.declared.faults.LayFault.TheVariants.{Wraps, Full, Memory}
use Rattle.bench_model.specs.declared.segment.Segment.{Segment}
use Rattle.bench_model.proofs.OverlayLemmas.{stands_beside, stands_on_top}
use Rattle.scatter_list.specs.Laid.{AreApart, GivesBack, IsLaid, block_list, block_size, descriptor}
use Rattle.scatter_list.specs.Laid.{laid_count, laid_list, list_refusal, told_lay, with_list}
use Rattle.scatter_list.specs.declared.limits.TheConstants.{MAX_DESCRIPTORS}
use Rattle.scatter_list.proofs.LaidLemmas.{gives_back, length_list}

-- ---- the bytes of a list

pub descriptor_put : (result : Result (Unit {0}) NoMemory) (old mid new : List ℕ)
    (size pointer : ℕ) → mid ≡ old ++ bytes_of 8 size
    → OnOk result (new ≡ mid ++ bytes_of 8 pointer)
    → OnOk result (new ≡ old ++ descriptor size pointer)
descriptor_put (Ok x) old mid new size pointer first second =
    second ∙ ap (λ (xs : List ℕ). xs ++ bytes_of 8 pointer) first
    ∙ append_assoc old (bytes_of 8 size) (bytes_of 8 pointer)
descriptor_put (Err e) old mid new size pointer first second = tt

pub no_list : (base size block : ℕ) → block_list base size block 0 ≡ []
unfolding block_list
no_list base size block = refl

pub list_more : (base size block n count : ℕ) (old new : List ℕ)
    → count ≡ block_size size block n → old ≡ block_list base size block n
    → new ≡ old ++ descriptor count (base + n * block)
    → new ≡ block_list base size block (n + 1)
unfolding block_list
list_more base size block n count old new told so_far more =
    more ∙ ap₂ (λ (xs : List ℕ) (c : ℕ). xs ++ descriptor c (base + n * block)) so_far told
    ∙ ap (block_list base size block) (sym (add-one n))

pub list_whole : (base size block n : ℕ) (old new : List ℕ) → n ≡ div_ceil size block
    → old ≡ block_list base size block n → new ≡ old ++ descriptor 0 0
    → new ≡ laid_list base size block
list_whole base size block n old new end so_far more =
    more ∙ ap (λ (xs : List ℕ). xs ++ descriptor 0 0)
    (so_far ∙ ap (block_list base size block) end)

-- ---- the two segments

wraps_above : (memory : List Segment) (at size : ℕ) → 2 ^ 64 - 1 < at + size
    → lay_refusal memory at size ≡ Some Wraps
wraps_above memory at size above =
    let past : nat_lt (2 ^ 64 - 1) (at + size) ≡ true = grind (arith, nat_tests) in rw past refl

pub ends_below : (memory : List Segment) (at size : ℕ) → lay_refusal memory at size ≡ None
    → at + size ≤ 2 ^ 64 - 1
ends_below memory at size is = elim (cases_lt (2 ^ 64 - 1) (at + size)) [
  | inl above ↦ absurd (let no = sym is ∙ wraps_above memory at size above in cc)
  | inr below ↦ below
]

is_laid : (memory : List Segment) (root base : ℕ) (bytes : List ℕ) (block : ℕ)
    → AreApart root base (length bytes) block
    → lay_refusal memory base (length bytes) ≡ None
    → lay_refusal (with_segment memory base bytes) root
    (length (laid_list base (length bytes) block)) ≡ None
    → IsLaid (with_list memory root base bytes block) root base bytes block
is_laid memory root base bytes block apart first second =
    let list = laid_list base (length bytes) block in
    let long : length (laid_list base (length bytes) block)
    ≡ 16 * laid_count (length bytes) block = length_list base (length bytes) block in
    record {
      there = stands_beside (with_segment memory base bytes) base bytes root list
          (λ k low high from to. apart k low high from (omega (arith, long)))
          (stands_on_top memory base bytes (ends_below memory base (length bytes) first));
      list = stands_on_top (with_segment memory base bytes) root list
          (ends_below (with_segment memory base bytes) root (length list) second);
    }

pub walked_by : (result : Result (Unit {0}) LayFault) (memory mid new : List Segment)
    (root base : ℕ) (bytes list : List ℕ) (block : ℕ) → 0 < block → root % 8 ≡ 0
    → AreApart root base (length bytes) block → lay_refusal memory base (length bytes) ≡ None
    → mid ≡ with_segment memory base bytes → list ≡ laid_list base (length bytes) block
    → OnOk result (new ≡ with_segment mid root list)
    → told_refusal result ≡ lay_refusal mid root (length list)
    → OnOk result (laid_count (length bytes) block ≤ MAX_DESCRIPTORS
    → GivesBack new root bytes (laid_count (length bytes) block))
walked_by (Ok x) memory mid new root base bytes list block some aligned apart first mid_is list_is
    new_is told = λ few.
    let is : new ≡ with_list memory root base bytes block =
    new_is ∙ ap₂ (λ (m : List Segment) (l : List ℕ). with_segment m root l) mid_is list_is in
    let second : lay_refusal (with_segment memory base bytes) root
    (length (laid_list base (length bytes) block)) ≡ None =
    ap₂ (λ (m : List Segment) (l : List ℕ). lay_refusal m root (length l)) (sym mid_is)
    (sym list_is) ∙ sym told in
    subst (λ m. GivesBack m root bytes (laid_count (length bytes) block)) (sym is)
    (gives_back (with_list memory root base bytes block) root base bytes block some aligned few
    (is_laid memory root base bytes block apart first second))
walked_by (Err e) memory mid new root base bytes list block some aligned apart first mid_is list_is
    new_is told = tt

told_by : (result : Result (Unit {0}) LayFault) (refused : Option LayFault)
    → told_refusal result ≡ refused → AnswersBy told_lay result refused
told_by (Ok x) refused is = sym is
told_by (Err Wraps) refused is = sym is
told_by (Err Full) refused is = sym is
told_by (Err Memory) refused is = tt

pub refused_by : (result : Result (Unit {0}) LayFault) (memory mid : List Segment)
    (root base : ℕ) (bytes list : List ℕ) (block : ℕ)
    → lay_refusal memory base (length bytes) ≡ None
    → mid ≡ with_segment memory base bytes → list ≡ laid_list base (length bytes) block
    → told_refusal result ≡ lay_refusal mid root (length list)
    → AnswersBy told_lay result (list_refusal memory root base bytes block)
refused_by result memory mid root base bytes list block first mid_is list_is told =
    told_by result (list_refusal memory root base bytes block)
    (told
    ∙ ap₂ (λ (m : List Segment) (n : ℕ). lay_refusal m root n) mid_is
    (ap length list_is ∙ length_list base (length bytes) block)
    ∙ ap (λ o. option_or o (lay_refusal (with_segment memory base bytes) root
    (16 * laid_count (length bytes) block))) (sym first))
