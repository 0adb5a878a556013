-- A list that was laid is walked from its root, and gives its bytes back.
use Rattle.std.proofs.Common.{◌≡◌, ℕ, zero, suc, ◌+◌, ◌-◌, ◌*◌, ◌%◌, ◌^◌, ◌<◌, ◌≤◌, ◌==◌, ◌&&◌}
use Rattle.std.proofs.Common.{min, true, false, not, cond, List, [], ◌++◌, length, take, drop}
use Rattle.std.proofs.Common.{Option, Some, None, Ok, nat_lt, refl, sym, ap, ap₂, subst, ◌∙◌, add-one}
use Rattle.std.proofs.Common.{arith, inl, inr, append_assoc, append-nil, length-append, length-drop}
use Rattle.std.specs.Int.{div_ceil}
use Rattle.std.specs.Option.{option_or}
use Rattle.std.proofs.Math.Seq.{take-add}
use Rattle.std.proofs.lemmas.Bool.{cases_lt, ne_eqb}
use Rattle.std.proofs.lemmas.Bool.Decides.{nat_tests}
use Rattle.std.proofs.lemmas.Grind.{div_ceil_times}
use Rattle.std.proofs.lemmas.List.{take_min, take_all}
use Rattle.cu_base.specs.Fields.{field, number_at}
use Rattle.cu_base.proofs.Fields.{field_in, length-field, number-bytes_of}
use Rattle.bench_model.specs.Memory.{IsThere}
use Rattle.bench_model.specs.declared.segment.Segment.{Segment}
use Rattle.bench_model.proofs.OverlayLemmas.{stands_in}
use Rattle.scatter_list.specs.Coalesced.{block_of, blocks, first_lacking, lacking_block}
use Rattle.scatter_list.specs.Going.{GoesOn, GoesOnTo}
use Rattle.scatter_list.specs.Laid.{GivesBack, IsLaid, block_list, block_size, descriptor}
use Rattle.scatter_list.specs.Laid.{laid_count, laid_list}
use Rattle.scatter_list.specs.Reads.{bytes_from, is_whole}
use Rattle.scatter_list.specs.Walk.{address, is_end, length_at, next, pointer_at}
use Rattle.scatter_list.specs.Walk.{total_of}
use Rattle.scatter_list.specs.declared.limits.TheConstants.{MAX_DESCRIPTORS}
use Rattle.scatter_list.proofs.BlockLemmas.{blocks_step, lacking_step, no_blocks, none_lacking}
use Rattle.scatter_list.proofs.ReadLemmas.{none_read, none_whole, there_bytes, there_whole}
use Rattle.scatter_list.proofs.Rho.{step_more, step_none}
use Rattle.scatter_list.proofs.WalkLemmas.{ends_ok, total_none, total_step}

-- ---- the bytes of a list

length_descriptor : (size pointer : ℕ) → length (descriptor size pointer) ≡ 16
length_descriptor size pointer = refl

length_blocks : (base size block n : ℕ) → length (block_list base size block n) ≡ 16 * n
unfolding block_list
length_blocks base size block zero = refl
length_blocks base size block (suc n) =
    let so_far : length (block_list base size block n) ≡ 16 * n =
    length_blocks base size block n in
    let sum : length (block_list base size block n
    ++ descriptor (block_size size block n) (base + n * block))
    ≡ length (block_list base size block n) + 16 =
    length-append (block_list base size block n)
    (descriptor (block_size size block n) (base + n * block)) in
    omega (arith, so_far, sum)

pub length_list : (base size block : ℕ)
    → length (laid_list base size block) ≡ 16 * laid_count size block
length_list base size block =
    let so_far : length (block_list base size block (div_ceil size block))
    ≡ 16 * div_ceil size block = length_blocks base size block (div_ceil size block) in
    let sum : length (laid_list base size block)
    ≡ length (block_list base size block (div_ceil size block)) + 16 =
    length-append (block_list base size block (div_ceil size block)) (descriptor 0 0) in
    omega (arith, so_far, sum)

-- the descriptor of an index stands at its place
block_in : (base size block n k : ℕ) (tail : List ℕ) → k < n
    → field (block_list base size block n ++ tail) (16 * k) 16
    ≡ descriptor (block_size size block k) (base + k * block)
unfolding block_list
block_in base size block zero k tail less = let no : ⊥ = omega arith in absurd no
block_in base size block (suc n) k tail less =
    let front = block_list base size block n in
    let last = descriptor (block_size size block n) (base + n * block) in
    elim (cases_lt k n) [
      | inl before ↦
          ap (λ (xs : List ℕ). field xs (16 * k) 16) (append_assoc front last tail)
          ∙ block_in base size block n k (last ++ tail) before
      | inr at_least ↦
          let same : n ≡ k = omega arith in
          field_in ((front ++ last) ++ tail) front last tail (16 * k) 16
          (append_assoc front last tail)
          (length_blocks base size block n ∙ ap (λ i. 16 * i) same) refl
          ∙ ap (λ i. descriptor (block_size size block i) (base + i * block)) same
    ]

end_in : (base size block : ℕ)
    → field (laid_list base size block) (16 * div_ceil size block) 16 ≡ descriptor 0 0
end_in base size block =
    let front = block_list base size block (div_ceil size block) in
    field_in (laid_list base size block) front (descriptor 0 0) [] (16 * div_ceil size block) 16
    (ap (λ (xs : List ℕ). front ++ xs) (sym (append-nil (descriptor 0 0))))
    (length_blocks base size block (div_ceil size block)) refl

-- ---- what is read of bytes that stand in memory

part_read : (memory : List Segment) (place : ℕ) (bytes : List ℕ) (at n : ℕ)
    → at + n ≤ length bytes → IsThere memory place bytes
    → bytes_from memory (place + at) n ≡ field bytes at n
part_read memory place bytes at n within there =
    ap (bytes_from memory (place + at)) (sym (length-field bytes at n within))
    ∙ there_bytes memory (place + at) (field bytes at n)
    (stands_in memory place bytes at n within there)

part_whole : (memory : List Segment) (place : ℕ) (bytes : List ℕ) (at n : ℕ)
    → at + n ≤ length bytes → IsThere memory place bytes
    → is_whole memory (place + at) n ≡ true
part_whole memory place bytes at n within there =
    ap (is_whole memory (place + at)) (sym (length-field bytes at n within))
    ∙ there_whole memory (place + at) (field bytes at n)
    (stands_in memory place bytes at n within there)

-- the descriptor at an address is there, with this Length and pointer
record Says (memory : List Segment) (at n to : ℕ) : Type 0 where
  pub whole : is_whole memory at 16 ≡ true
  pub size : length_at memory at ≡ n
  pub pointer : pointer_at memory at ≡ to

says_at : (memory : List Segment) (place : ℕ) (list : List ℕ) (at size pointer : ℕ)
    → at + 16 ≤ length list → IsThere memory place list
    → field list at 16 ≡ descriptor size pointer → size < 2 ^ 64 → pointer < 2 ^ 64
    → Says memory (place + at) size pointer
says_at memory place list at size pointer within there is small near =
    let read : bytes_from memory (place + at) 16 ≡ descriptor size pointer =
    part_read memory place list at 16 within there ∙ is in
    record {
      whole = part_whole memory place list at 16 within there;
      size = ap (λ (b : List ℕ). number_at b 0 8) read ∙ number-bytes_of 8 size small;
      pointer = ap (λ (b : List ℕ). number_at b 8 8) read ∙ number-bytes_of 8 pointer near;
    }

-- ---- numbers of blocks

-- a block begins within the bytes
pub begins_within : (size block k : ℕ) → 0 < block → k < div_ceil size block → k * block < size
begins_within size block k some less =
    let times = div_ceil_times size block some in
    let more : (k + 1) * block ≤ div_ceil size block * block = grind arith in
    omega (arith, times.1, more)

ends_behind : (size block : ℕ) → 0 < block → size ≤ div_ceil size block * block
ends_behind size block some = (div_ceil_times size block some).0

-- ---- the walk over a list that was laid

-- what is known of a list that was laid
record Stands (memory : List Segment) (root base : ℕ) (bytes : List ℕ) (block : ℕ) : Type 0 where
  pub some : 0 < block
  pub aligned : root % 8 ≡ 0
  pub laid : IsLaid memory root base bytes block

block_says : (memory : List Segment) (root base : ℕ) (bytes : List ℕ) (block k : ℕ)
    → Stands memory root base bytes block → k < div_ceil (length bytes) block
    → Says memory (root + 16 * k) (block_size (length bytes) block k) (base + k * block)
block_says memory root base bytes block k stands less =
    let size = length bytes in
    let n = div_ceil (length bytes) block in
    let start : k * block < length bytes = begins_within size block k stands.some less in
    let long = length_list base size block in
    says_at memory root (laid_list base size block) (16 * k) _ _ (omega (arith, long))
    stands.laid.list (block_in base size block n k (descriptor 0 0) less)
    (omega (arith, stands.laid.there.end)) (omega (arith, stands.laid.there.end))

end_says : (memory : List Segment) (root base : ℕ) (bytes : List ℕ) (block : ℕ)
    → Stands memory root base bytes block
    → Says memory (root + 16 * div_ceil (length bytes) block) 0 0
end_says memory root base bytes block stands =
    let size = length bytes in
    let long = length_list base size block in
    says_at memory root (laid_list base size block) (16 * div_ceil size block) 0 0
    (omega (arith, long)) stands.laid.list (end_in base size block) (omega arith) (omega arith)

next_of : (memory : List Segment) (at size pointer : ℕ) → Says memory at size pointer → 0 < size
    → next memory at ≡ at + 16
next_of memory at size pointer says some =
    let more : nat_lt 0 (length_at memory at) ≡ true = grind (arith, nat_tests, says.size) in
    ap (λ b. cond (not b) at (cond (nat_lt 0 (length_at memory at)) (at + 16)
    (pointer_at memory at))) says.whole
    ∙ ap (λ b. cond b (at + 16) (pointer_at memory at)) more

block_some : (size block k : ℕ) → 0 < block → k * block < size → 0 < block_size size block k
block_some size block k some start = grind arith

address_is : (memory : List Segment) (root base : ℕ) (bytes : List ℕ) (block k : ℕ)
    → Stands memory root base bytes block → k ≤ div_ceil (length bytes) block
    → address memory root k ≡ root + 16 * k
address_is memory root base bytes block zero stands within =
    step_none (next memory) root ∙ omega arith
address_is memory root base bytes block (suc k) stands within =
    let here : address memory root k ≡ root + 16 * k =
    address_is memory root base bytes block k stands (omega arith) in
    let more : root + 16 * k + 16 ≡ root + 16 * suc k = omega arith in
    ap (address memory root) (sym (add-one k)) ∙ step_more (next memory) root k
    ∙ ap (next memory) here
    ∙ next_of memory (root + 16 * k) _ _
    (block_says memory root base bytes block k stands (omega arith))
    (block_some (length bytes) block k stands.some
    (begins_within (length bytes) block k stands.some (omega arith)))
    ∙ more

aligned_at : (root k : ℕ) → root % 8 ≡ 0 → (root + 16 * k) % 8 ≡ 0
aligned_at root k aligned = omega arith

not_end : (memory : List Segment) (at size pointer : ℕ) → Says memory at size pointer → 0 < size
    → is_end memory at ≡ false
not_end memory at size pointer says some =
    let other : (length_at memory at == 0) ≡ false =
    ne_eqb (length_at memory at) 0 (λ none. let no : ⊥ = omega (arith, none, says.size) in no) in
    ap (λ b. b && pointer_at memory at == 0) other

goes_on : (memory : List Segment) (root base : ℕ) (bytes : List ℕ) (block : ℕ)
    → Stands memory root base bytes block
    → GoesOnTo memory root (div_ceil (length bytes) block)
goes_on memory root base bytes block stands k less =
    let says = block_says memory root base bytes block k stands less in
    let start = begins_within (length bytes) block k stands.some less in
    subst (GoesOn memory) (sym (address_is memory root base bytes block k stands (omega arith)))
    (record {
      aligned = aligned_at root k stands.aligned;
      whole = says.whole;
      more = not_end memory (root + 16 * k) _ _ says
          (block_some (length bytes) block k stands.some start);
    })

sum_more : (p block size : ℕ) → min p size + min block (size - p) ≡ min (p + block) size
sum_more p block size = grind arith

total_is : (memory : List Segment) (root base : ℕ) (bytes : List ℕ) (block k : ℕ)
    → Stands memory root base bytes block → k ≤ div_ceil (length bytes) block
    → total_of memory root k ≡ min (k * block) (length bytes)
total_is memory root base bytes block zero stands within = total_none memory root ∙ grind arith
total_is memory root base bytes block (suc k) stands within =
    let says = block_says memory root base bytes block k stands (omega arith) in
    let more : k * block + block ≡ suc k * block = omega arith in
    ap (total_of memory root) (sym (add-one k)) ∙ total_step memory root k
    ∙ ap₂ (λ t l. t + l) (total_is memory root base bytes block k stands (omega arith))
    (ap (length_at memory) (address_is memory root base bytes block k stands (omega arith))
    ∙ says.size)
    ∙ sum_more (k * block) block (length bytes)
    ∙ ap (λ p. min p (length bytes)) more

-- the data block of an index
block_read : (memory : List Segment) (root base : ℕ) (bytes : List ℕ) (block k : ℕ)
    → Stands memory root base bytes block → k < div_ceil (length bytes) block
    → block_of memory (address memory root k) ≡ take block (drop (k * block) bytes)
block_read memory root base bytes block k stands less =
    let says = block_says memory root base bytes block k stands less in
    let start : k * block < length bytes = begins_within (length bytes) block k stands.some less in
    let rest : length (drop (k * block) bytes) ≡ length bytes - k * block =
    length-drop (k * block) bytes in
    let size = block_size (length bytes) block k in
    let within : k * block + min block (length bytes - k * block) ≤ length bytes = grind arith in
    ap (block_of memory) (address_is memory root base bytes block k stands (omega arith))
    ∙ ap₂ (bytes_from memory) says.pointer says.size
    ∙ part_read memory base bytes (k * block) size within stands.laid.there
    ∙ ap (λ r. take (min block r) (drop (k * block) bytes)) (sym rest)
    ∙ take_min block (drop (k * block) bytes)

block_whole : (memory : List Segment) (root base : ℕ) (bytes : List ℕ) (block k : ℕ)
    → Stands memory root base bytes block → k < div_ceil (length bytes) block
    → lacking_block memory (address memory root k) ≡ None
block_whole memory root base bytes block k stands less =
    let says = block_says memory root base bytes block k stands less in
    let start : k * block < length bytes = begins_within (length bytes) block k stands.some less in
    let within : k * block + min block (length bytes - k * block) ≤ length bytes = grind arith in
    ap (lacking_block memory) (address_is memory root base bytes block k stands (omega arith))
    ∙ ap₂ (λ p l. cond (is_whole memory p l) None (Some (root + 16 * k))) says.pointer says.size
    ∙ ap (λ w. cond w None (Some (root + 16 * k)))
    (part_whole memory base bytes (k * block) _ within stands.laid.there)

blocks_are : (memory : List Segment) (root base : ℕ) (bytes : List ℕ) (block k : ℕ)
    → Stands memory root base bytes block → k ≤ div_ceil (length bytes) block
    → blocks memory root k ≡ take (k * block) bytes
blocks_are memory root base bytes block zero stands within =
    let none : 0 ≡ 0 * block = omega arith in no_blocks memory root ∙ ap (λ n. take n bytes) none
blocks_are memory root base bytes block (suc k) stands within =
    let more : k * block + block ≡ suc k * block = omega arith in
    ap (blocks memory root) (sym (add-one k)) ∙ blocks_step memory root k
    ∙ ap₂ (λ (xs ys : List ℕ). xs ++ ys)
    (blocks_are memory root base bytes block k stands (omega arith))
    (block_read memory root base bytes block k stands (omega arith))
    ∙ sym (take-add (k * block) block bytes)
    ∙ ap (λ n. take n bytes) more

none_lacks : (memory : List Segment) (root base : ℕ) (bytes : List ℕ) (block k : ℕ)
    → Stands memory root base bytes block → k ≤ div_ceil (length bytes) block
    → first_lacking memory root k ≡ None
none_lacks memory root base bytes block zero stands within = none_lacking memory root
none_lacks memory root base bytes block (suc k) stands within =
    ap (first_lacking memory root) (sym (add-one k)) ∙ lacking_step memory root k
    ∙ ap₂ (λ (a b : Option ℕ). option_or a b)
    (none_lacks memory root base bytes block k stands (omega arith))
    (block_whole memory root base bytes block k stands (omega arith))

-- ---- the end mark

end_is : (memory : List Segment) (at : ℕ) → Says memory at 0 0 → is_end memory at ≡ true
end_is memory at says = ap₂ (λ l p. l == 0 && p == 0) says.size says.pointer

end_block : (memory : List Segment) (at : ℕ) → Says memory at 0 0 → block_of memory at ≡ []
end_block memory at says = ap₂ (bytes_from memory) says.pointer says.size ∙ none_read memory 0

end_whole : (memory : List Segment) (at : ℕ) → Says memory at 0 0 → lacking_block memory at ≡ None
end_whole memory at says =
    ap₂ (λ p l. cond (is_whole memory p l) None (Some at)) says.pointer says.size
    ∙ ap (λ w. cond w None (Some at)) (none_whole memory 0)

-- a list that was laid, of at most so many descriptors as a list may have, gives its bytes back
pub gives_back : (memory : List Segment) (root base : ℕ) (bytes : List ℕ) (block : ℕ)
    → 0 < block → root % 8 ≡ 0 → laid_count (length bytes) block ≤ MAX_DESCRIPTORS
    → IsLaid memory root base bytes block
    → GivesBack memory root bytes (laid_count (length bytes) block)
gives_back memory root base bytes block some aligned few laid =
    let stands : Stands memory root base bytes block =
    record { some = some; aligned = aligned; laid = laid } in
    let n = div_ceil (length bytes) block in
    let behind : length bytes ≤ div_ceil (length bytes) block * block =
    ends_behind (length bytes) block some in
    let here : address memory root n ≡ root + 16 * n =
    address_is memory root base bytes block n stands (omega arith) in
    let end = end_says memory root base bytes block stands in
    let total : total_of memory root n ≡ length bytes =
    total_is memory root base bytes block n stands (omega arith) ∙ grind arith in
    record {
      shape = record { root = root; descriptors = n + 1; total = length bytes };
      is = refl;
      walked = ends_ok memory root n (omega arith) (goes_on memory root base bytes block stands)
          (ap (λ x. x % 8) here ∙ aligned_at root n aligned)
          (ap (λ x. is_whole memory x 16) here ∙ end.whole)
          (ap (is_end memory) here ∙ end_is memory (root + 16 * n) end)
          ∙ ap (λ t. Some (Ok (record { root = root; descriptors = n + 1; total = t }))) total;
      gives = blocks_step memory root n
          ∙ ap₂ (λ (xs ys : List ℕ). xs ++ ys)
          (blocks_are memory root base bytes block n stands (omega arith))
          (ap (block_of memory) here ∙ end_block memory (root + 16 * n) end)
          ∙ append-nil (take (n * block) bytes) ∙ take_all (n * block) bytes behind;
      whole = lacking_step memory root n
          ∙ ap₂ (λ (a b : Option ℕ). option_or a b)
          (none_lacks memory root base bytes block n stands (omega arith))
          (ap (lacking_block memory) here ∙ end_whole memory (root + 16 * n) end);
    }
