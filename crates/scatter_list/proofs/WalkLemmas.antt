-- The index at which a walk ends, by what was seen at the indices before it.
use Rattle.std.proofs.Common.{◌≡◌, ◌≢◌, ℕ, zero, suc, ◌+◌, ◌-◌, ◌%◌, ◌<◌, ◌≤◌, ◌==◌, ◌&&◌, ◌||◌, ◌⊎◌, Bool, true}
use Rattle.std.proofs.Common.{false, not, cond, List, Option, Some, None, Result, Ok, Err, refl, sym}
use Rattle.std.proofs.Common.{ap, ap₂, ◌∙◌, add-one, nat_lt, arith, inl, inr, true≢false, subst}
use Rattle.std.specs.Option.{option_or}
use Rattle.std.proofs.lemmas.Bool.{cases_lt, eq-eqb, ne_eqb}
use Rattle.cu_base.specs.Refusals.{first_refusal}
use Rattle.cu_base.proofs.Rows.{passed}
use Rattle.bench_model.specs.declared.segment.Segment.{Segment}
use Rattle.scatter_list.specs.Going.{GoesOn, GoesOnTo, NoReturn, IsPeriod, NoMeeting, Meets}
use Rattle.scatter_list.specs.Reads.{is_whole}
use Rattle.scatter_list.specs.Walk.{address, is_end, is_passed, next, shape_to, tests, first_outcome}
use Rattle.scatter_list.specs.Walk.{total_of, length_at, pointer_at, walk}
use Rattle.scatter_list.specs.Descriptors.{IsDescriptor, behind_of}
use Rattle.scatter_list.specs.declared.descriptor.Descriptor.{Descriptor}
use Rattle.scatter_list.specs.declared.faults.ShapeFault.{ShapeFault}
use Rattle.scatter_list.specs.declared.faults.ShapeFault.TheVariants.{Misaligned, Unreadable}
use Rattle.scatter_list.specs.declared.faults.ShapeFault.TheVariants.{Cycle, TooLong}
use Rattle.scatter_list.specs.declared.limits.TheConstants.{MAX_DESCRIPTORS}
use Rattle.scatter_list.specs.declared.told.Shape.{Shape}
use Rattle.scatter_list.proofs.Rho.{NoneAgain, none_before_stop, none_without_return}
use Rattle.scatter_list.proofs.Rho.{none_without_meeting, step_more}

-- ---- the tests of one index

-- no descriptor so far is at this address
not_passed : (memory : List Segment) (root x n : ℕ)
    → ((k : ℕ) → k < n → address memory root k ≢ x) → is_passed memory root x n ≡ false
unfolding is_passed
not_passed memory root x zero none = refl
not_passed memory root x (suc n) none =
    rw (not_passed memory root x n (λ k less. none k (omega arith)))
    (ne_eqb (address memory root n) x (none n (omega arith)))

or_later : (b : Bool) → (b || true) ≡ true
or_later true = refl
or_later false = refl

-- one of the descriptors so far is at this address
has_passed : (memory : List Segment) (root x n k : ℕ) → k < n → address memory root k ≡ x
    → is_passed memory root x n ≡ true
unfolding is_passed
has_passed memory root x zero k less is = let no : ⊥ = omega arith in absurd no
has_passed memory root x (suc n) k less is = elim (cases_lt k n) [
  | inl before ↦ rw (has_passed memory root x n k before is) refl
  | inr at_least ↦
      let last : k ≡ n = omega arith in
      ap (λ b. is_passed memory root x n || b)
      (eq-eqb (address memory root n) x (ap (address memory root) (sym last) ∙ is))
      ∙ or_later (is_passed memory root x n)
]

-- a row that fails, and one that holds
skip : {R : Type 0} (b : Bool) (here : R) (later answer : Option R) → b ≡ false → later ≡ answer
    → cond b (Some here) later ≡ answer
skip b here later answer fails is = rw fails is

stop : {R : Type 0} (b : Bool) (here : R) (later : Option R) → b ≡ true
    → cond b (Some here) later ≡ Some here
stop b here later holds = rw holds refl

-- no address comes again by this index, so this one was not passed
new_here : (memory : List Segment) (root end index : ℕ) → NoneAgain (next memory) root end
    → index ≤ end → is_passed memory root (address memory root index) index ≡ false
new_here memory root end index none within =
    not_passed memory root (address memory root index) index (λ k less. none k index less within)

below_most : (index : ℕ) → index < MAX_DESCRIPTORS → (index == MAX_DESCRIPTORS) ≡ false
below_most index less = ne_eqb index MAX_DESCRIPTORS (λ is. omega arith)

is_aligned : (x : ℕ) → x % 8 ≡ 0 → not (x % 8 == 0) ≡ false
is_aligned x aligned = ap not (eq-eqb (x % 8) 0 aligned)

-- where the walk goes on no test holds
no_test : (memory : List Segment) (root end index : ℕ) → NoneAgain (next memory) root end
    → index ≤ end → index < MAX_DESCRIPTORS → GoesOn memory (address memory root index)
    → first_refusal (tests memory root index) ≡ None
no_test memory root end index none within less on =
    skip _ _ _ _ (new_here memory root end index none within)
    (skip _ _ _ _ (below_most index less)
    (skip _ _ _ _ (is_aligned (address memory root index) on.aligned)
    (skip _ _ _ _ (ap not on.whole)
    (skip _ _ _ _ on.more refl))))

-- ---- the first index at which a test holds

first_at : (memory : List Segment) (root n start index : ℕ) (outcome : Result Shape ShapeFault)
    → start ≤ index → index < start + n
    → ((k : ℕ) → k < index → first_refusal (tests memory root k) ≡ None)
    → first_refusal (tests memory root index) ≡ Some outcome
    → first_outcome memory root n start ≡ Some outcome
unfolding first_outcome
first_at memory root zero start index outcome from to none is =
    let no : ⊥ = omega arith in absurd no
first_at memory root (suc n) start index outcome from to none is = elim (cases_lt start index) [
  | inl less ↦
      ap (λ o. option_or o (first_outcome memory root n (suc start))) (none start less)
      ∙ first_at memory root n (suc start) index outcome (omega arith) (omega arith) none is
  | inr at_least ↦
      let here : start ≡ index = omega arith in
      ap (λ k. option_or (first_refusal (tests memory root k))
      (first_outcome memory root n (suc start))) here
      ∙ ap (λ o. option_or o (first_outcome memory root n (suc start))) is
]

ends_at : (memory : List Segment) (root index : ℕ) (outcome : Result Shape ShapeFault)
    → index ≤ MAX_DESCRIPTORS
    → ((k : ℕ) → k < index → first_refusal (tests memory root k) ≡ None)
    → first_refusal (tests memory root index) ≡ Some outcome
    → walk memory root ≡ Some outcome
unfolding walk
ends_at memory root index outcome within none is =
    first_at memory root (MAX_DESCRIPTORS + 1) 0 index outcome (omega arith) (omega arith) none is

-- ---- a walk that ends by itself

none_again : (memory : List Segment) (root index : ℕ) → GoesOnTo memory root index
    → (GoesOn memory (address memory root index) → ⊥) → NoneAgain (next memory) root index
none_again memory root index on stops =
    none_before_stop (next memory) (GoesOn memory) root index on stops

earlier : (memory : List Segment) (root index : ℕ) → index < MAX_DESCRIPTORS
    → GoesOnTo memory root index → NoneAgain (next memory) root index
    → (k : ℕ) → k < index → first_refusal (tests memory root k) ≡ None
earlier memory root index within on none k less =
    no_test memory root index k none (omega arith) (omega arith) (on k less)

pub ends_misaligned : (memory : List Segment) (root index : ℕ) → index < MAX_DESCRIPTORS
    → GoesOnTo memory root index → address memory root index % 8 ≢ 0
    → walk memory root ≡ Some (Err (Misaligned (address memory root index)))
ends_misaligned memory root index within on odd =
    let x = address memory root index in
    let none = none_again memory root index on (λ goes. odd goes.aligned) in
    ends_at memory root index _ (omega arith) (earlier memory root index within on none)
    (skip _ _ _ _ (new_here memory root index index none (omega arith))
    (skip _ _ _ _ (below_most index within)
    (stop _ _ _ (ap not (ne_eqb (x % 8) 0 odd)))))

pub ends_unreadable : (memory : List Segment) (root index : ℕ) → index < MAX_DESCRIPTORS
    → GoesOnTo memory root index → address memory root index % 8 ≡ 0
    → is_whole memory (address memory root index) 16 ≡ false
    → walk memory root ≡ Some (Err (Unreadable (address memory root index)))
ends_unreadable memory root index within on aligned gone =
    let x = address memory root index in
    let none = none_again memory root index on
    (λ goes. absurd (true≢false (sym goes.whole ∙ gone))) in
    ends_at memory root index _ (omega arith) (earlier memory root index within on none)
    (skip _ _ _ _ (new_here memory root index index none (omega arith))
    (skip _ _ _ _ (below_most index within)
    (skip _ _ _ _ (is_aligned x aligned)
    (stop _ _ _ (ap not gone)))))

pub ends_ok : (memory : List Segment) (root index : ℕ) → index < MAX_DESCRIPTORS
    → GoesOnTo memory root index → address memory root index % 8 ≡ 0
    → is_whole memory (address memory root index) 16 ≡ true
    → is_end memory (address memory root index) ≡ true
    → walk memory root ≡ Some (Ok (shape_to memory root index))
ends_ok memory root index within on aligned whole end =
    let x = address memory root index in
    let none = none_again memory root index on
    (λ goes. absurd (true≢false (sym end ∙ goes.more))) in
    ends_at memory root index _ (omega arith) (earlier memory root index within on none)
    (skip _ _ _ _ (new_here memory root index index none (omega arith))
    (skip _ _ _ _ (below_most index within)
    (skip _ _ _ _ (is_aligned x aligned)
    (skip _ _ _ _ (ap not whole)
    (stop _ _ _ end)))))

-- ---- the same, by the address and the descriptor that the code has in hand

pub misaligned_here : (memory : List Segment) (root index at : ℕ) → index < MAX_DESCRIPTORS
    → GoesOnTo memory root index → at ≡ address memory root index → at % 8 ≢ 0
    → walk memory root ≡ Some (Err (Misaligned at))
misaligned_here memory root index at within on here odd =
    ends_misaligned memory root index within on (λ is. odd (ap (λ x. x % 8) here ∙ is))
    ∙ ap (λ x. Some (Err (Misaligned x))) (sym here)

pub unreadable_here : (memory : List Segment) (root index at : ℕ) → index < MAX_DESCRIPTORS
    → GoesOnTo memory root index → at ≡ address memory root index → at % 8 ≡ 0
    → is_whole memory at 16 ≡ false → walk memory root ≡ Some (Err (Unreadable at))
unreadable_here memory root index at within on here aligned gone =
    ends_unreadable memory root index within on (ap (λ x. x % 8) (sym here) ∙ aligned)
    (ap (λ x. is_whole memory x 16) (sym here) ∙ gone)
    ∙ ap (λ x. Some (Err (Unreadable x))) (sym here)

end_mark : (memory : List Segment) (at : ℕ) (d : Descriptor) (b : Bool) → IsDescriptor memory at d
    → b ≡ (d.length == 0 && d.pointer == 0) → is_end memory at ≡ b
end_mark memory at d b is told =
    ap₂ (λ l p. l == 0 && p == 0) (sym is.size) (sym is.pointer) ∙ sym told

pub ok_here : (memory : List Segment) (root index at total : ℕ) (d : Descriptor) (b : Bool)
    → index < MAX_DESCRIPTORS → GoesOnTo memory root index → at ≡ address memory root index
    → total ≡ total_of memory root index → at % 8 ≡ 0 → IsDescriptor memory at d
    → b ≡ (d.length == 0 && d.pointer == 0) → b ≡ true
    → walk memory root
    ≡ Some (Ok (record { root = root; descriptors = index + 1; total = total }))
ok_here memory root index at total d b within on here sum aligned is told end =
    ends_ok memory root index within on (ap (λ x. x % 8) (sym here) ∙ aligned)
    (ap (λ x. is_whole memory x 16) (sym here) ∙ is.whole)
    (ap (is_end memory) (sym here) ∙ end_mark memory at d b is told ∙ end)
    ∙ ap (λ t. Some (Ok (record { root = root; descriptors = index + 1; total = t }))) (sym sum)

-- ---- one descriptor more

pub goes_on_more : (memory : List Segment) (root index at : ℕ) (d : Descriptor) (b : Bool)
    → GoesOnTo memory root index → at ≡ address memory root index → at % 8 ≡ 0
    → IsDescriptor memory at d → b ≡ (d.length == 0 && d.pointer == 0) → b ≡ false
    → GoesOnTo memory root (index + 1)
goes_on_more memory root index at d b on here aligned is told more k less =
    elim (cases_lt k index) [
      | inl before ↦ on k before
      | inr at_least ↦
          let last : k ≡ index = omega arith in
          let there : at ≡ address memory root k = here ∙ ap (address memory root) (sym last) in
          subst (GoesOn memory) there (record {
            aligned = aligned;
            whole = is.whole;
            more = end_mark memory at d b is told ∙ more;
          })
    ]

next_is : (memory : List Segment) (at : ℕ) (d : Descriptor) → IsDescriptor memory at d
    → next memory at ≡ behind_of d at
next_is memory at d is =
    ap (λ b. cond (not b) at (cond (nat_lt 0 (length_at memory at)) (at + 16)
    (pointer_at memory at))) is.whole
    ∙ ap₂ (λ l p. cond (nat_lt 0 l) (at + 16) p) (sym is.size) (sym is.pointer)

pub address_more : (memory : List Segment) (root index at later : ℕ) (d : Descriptor)
    → at ≡ address memory root index → IsDescriptor memory at d → later ≡ behind_of d at
    → later ≡ address memory root (index + 1)
address_more memory root index at later d here is behind =
    behind ∙ sym (next_is memory at d is) ∙ ap (next memory) here
    ∙ sym (step_more (next memory) root index)

pub total_none : (memory : List Segment) (root : ℕ) → total_of memory root 0 ≡ 0
unfolding total_of
total_none memory root = refl

pub total_step : (memory : List Segment) (root index : ℕ)
    → total_of memory root (index + 1)
    ≡ total_of memory root index + length_at memory (address memory root index)
unfolding total_of
total_step memory root index = ap (total_of memory root) (add-one index)

pub total_more : (memory : List Segment) (root index at total : ℕ) (d : Descriptor)
    → at ≡ address memory root index → IsDescriptor memory at d
    → total ≡ total_of memory root index
    → total + d.length ≡ total_of memory root (index + 1)
total_more memory root index at total d here is sum =
    ap₂ (λ t l. t + l) sum (is.size ∙ ap (length_at memory) here)
    ∙ sym (total_step memory root index)

-- ---- a walk that goes on

too_long : (memory : List Segment) (root : ℕ) → GoesOnTo memory root MAX_DESCRIPTORS
    → NoneAgain (next memory) root MAX_DESCRIPTORS → walk memory root ≡ Some (Err TooLong)
too_long memory root on none =
    ends_at memory root MAX_DESCRIPTORS (Err TooLong) (omega arith)
    (λ k less. no_test memory root MAX_DESCRIPTORS k none (omega arith) less (on k less))
    (skip (is_passed memory root (address memory root MAX_DESCRIPTORS) MAX_DESCRIPTORS)
    (Err (Cycle (address memory root MAX_DESCRIPTORS))) (Some (Err TooLong)) (Some (Err TooLong))
    (new_here memory root MAX_DESCRIPTORS MAX_DESCRIPTORS none (omega arith)) refl)

pub no_return : (memory : List Segment) (root far : ℕ) → GoesOnTo memory root MAX_DESCRIPTORS
    → far ≡ address memory root MAX_DESCRIPTORS → NoReturn (next memory) far MAX_DESCRIPTORS
    → walk memory root ≡ Some (Err TooLong)
no_return memory root far on is none =
    too_long memory root on
    (none_without_return (next memory) root MAX_DESCRIPTORS
    (subst (λ x. NoReturn (next memory) x MAX_DESCRIPTORS) is none))

pub no_meeting : (memory : List Segment) (root far period : ℕ)
    → GoesOnTo memory root MAX_DESCRIPTORS → far ≡ address memory root MAX_DESCRIPTORS
    → IsPeriod (next memory) far period
    → NoMeeting (next memory) root period (MAX_DESCRIPTORS + 1)
    → walk memory root ≡ Some (Err TooLong)
no_meeting memory root far period on is least none =
    too_long memory root on
    (none_without_meeting (next memory) root period MAX_DESCRIPTORS MAX_DESCRIPTORS (omega arith)
    (subst (λ x. IsPeriod (next memory) x period) is least) none)

pub met : (memory : List Segment) (root far period at : ℕ)
    → GoesOnTo memory root MAX_DESCRIPTORS → far ≡ address memory root MAX_DESCRIPTORS
    → IsPeriod (next memory) far period → Meets (next memory) root period at
    → walk memory root ≡ Some (Err (Cycle at))
met memory root far period at on is least meets =
    let index = meets.index + period in
    let some = least.some in
    let within = meets.within in
    let count : index - 1 + 1 ≡ index = omega arith in
    let none = none_without_meeting (next memory) root period (index - 1) MAX_DESCRIPTORS
    (omega arith) (subst (λ x. IsPeriod (next memory) x period) is least)
    (subst (NoMeeting (next memory) root period) (sym count) meets.first) in
    ends_at memory root index _ within
    (λ k less. no_test memory root (index - 1) k none (omega arith) (omega arith)
    (on k (omega arith)))
    (stop _ _ _ (has_passed memory root (address memory root index) index meets.index
    (omega arith) meets.again))
    ∙ ap (λ x. Some (Err (Cycle x))) (sym meets.again ∙ sym meets.here)

-- ---- what an outcome tells

-- the index of an outcome: there it is told, and no test holds before
record Ended (memory : List Segment) (root : ℕ) (outcome : Result Shape ShapeFault) : Type 0 where
  pub index : ℕ
  pub none : (k : ℕ) → k < index → first_refusal (tests memory root k) ≡ None
  pub is : first_refusal (tests memory root index) ≡ Some outcome

or_cases : {R : Type 0} (o later : Option R) (r : R) → option_or o later ≡ Some r
    → (o ≡ Some r) ⊎ ((o ≡ None) × (later ≡ Some r))
or_cases None later r e = inr (refl, e)
or_cases (Some x) later r e = inl e

none_to : (memory : List Segment) (root start : ℕ)
    → ((k : ℕ) → k < start → first_refusal (tests memory root k) ≡ None)
    → first_refusal (tests memory root start) ≡ None
    → (k : ℕ) → k < suc start → first_refusal (tests memory root k) ≡ None
none_to memory root start none here k less = elim (cases_lt k start) [
  | inl before ↦ none k before
  | inr at_least ↦
      let last : k ≡ start = omega arith in
      ap (λ i. first_refusal (tests memory root i)) last ∙ here
]

ended_from : (memory : List Segment) (root n start : ℕ) (outcome : Result Shape ShapeFault)
    → ((k : ℕ) → k < start → first_refusal (tests memory root k) ≡ None)
    → first_outcome memory root n start ≡ Some outcome → Ended memory root outcome
unfolding first_outcome
ended_from memory root zero start outcome none is = absurd cc
ended_from memory root (suc n) start outcome none is =
    elim (or_cases (first_refusal (tests memory root start))
    (first_outcome memory root n (suc start)) outcome is) [
      | inl here ↦ record { index = start; none = none; is = here }
      | inr later ↦ ended_from memory root n (suc start) outcome
          (none_to memory root start none later.0) later.1
    ]

no_index : (k : ℕ) → k < 0 → ⊥
no_index k less = omega arith

ended : (memory : List Segment) (root : ℕ) (outcome : Result Shape ShapeFault)
    → walk memory root ≡ Some outcome → Ended memory root outcome
unfolding walk
ended memory root outcome is =
    ended_from memory root (MAX_DESCRIPTORS + 1) 0 outcome
    (λ k less. absurd (no_index k less)) is

was_true : (b : Bool) → not b ≡ false → b ≡ true
was_true true e = refl
was_true false e = absurd (true≢false e)

-- the last two rows of the tests
ok_rows : (a b : Bool) (x : ℕ) (s t : Shape)
    → cond (not a) (Some (Err (Unreadable x))) (cond b (Some (Ok s)) None) ≡ Some (Ok t)
    → (a ≡ true) × (s ≡ t)
ok_rows true true x s t e = (refl, cc)
ok_rows true false x s t e = absurd cc
ok_rows false b x s t e = absurd cc

-- the other rows before them
ok_row : (b : Bool) (f : ShapeFault) (t : Shape) (later : Option (Result Shape ShapeFault))
    → cond b (Some (Err f)) later ≡ Some (Ok t) → later ≡ Some (Ok t)
ok_row true f t later e = absurd cc
ok_row false f t later e = e

last_test : (memory : List Segment) (root index : ℕ) (t : Shape)
    → first_refusal (tests memory root index) ≡ Some (Ok t)
    → (is_whole memory (address memory root index) 16 ≡ true)
    × (shape_to memory root index ≡ t)
last_test memory root index t e =
    let x = address memory root index in
    ok_rows (is_whole memory x 16) (is_end memory x) x (shape_to memory root index) t
    (ok_row (not (x % 8 == 0)) (Misaligned x) t _
    (ok_row (index == MAX_DESCRIPTORS) TooLong t _
    (ok_row (is_passed memory root x index) (Cycle x) t _ e)))

-- each descriptor of a list that has a shape is there
pub all_whole : (memory : List Segment) (s : Shape) → walk memory s.root ≡ Some (Ok s)
    → (k : ℕ) → k < s.descriptors → is_whole memory (address memory s.root k) 16 ≡ true
all_whole memory s is k less =
    let end = ended memory s.root (Ok s) is in
    let last = last_test memory s.root end.index s end.is in
    let count : end.index + 1 ≡ s.descriptors = ap (λ t. t.descriptors) last.1 in
    elim (cases_lt k end.index) [
      | inl before ↦
          was_true (is_whole memory (address memory s.root k) 16)
          ((passed (tests memory s.root k) (end.none k before)).1.1.1.0)
      | inr at_least ↦
          let same : k ≡ end.index = omega arith in
          ap (λ i. is_whole memory (address memory s.root i) 16) same ∙ last.0
    ]
