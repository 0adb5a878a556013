-- Places that follow one another by a function: they run into a cycle, or never come to one again.
-- Nothing here speaks of memory.
use Rattle.std.proofs.Common.{◌≡◌, ◌≢◌, ℕ, zero, suc, ◌+◌, ◌-◌, ◌<◌, ◌≤◌}
use Rattle.std.proofs.Common.{refl, sym, ap, ◌∙◌, add-one, arith, subst, inl, inr}
use Rattle.std.proofs.lemmas.Bool.{cases_lt}
use Rattle.scatter_list.specs.Walk.{steps_on}
use Rattle.scatter_list.specs.Going.{NoReturn, NoMeeting, IsPeriod}

-- no step and one step more
pub step_none : (f : ℕ → ℕ) (x : ℕ) → steps_on f x 0 ≡ x
unfolding steps_on
step_none f x = refl

pub step_more : (f : ℕ → ℕ) (x n : ℕ) → steps_on f x (n + 1) ≡ f (steps_on f x n)
unfolding steps_on
step_more f x n = ap (steps_on f x) (add-one n)

pub so_far_more : (f : ℕ → ℕ) (x n at later : ℕ) → at ≡ steps_on f x n → later ≡ f at
    → later ≡ steps_on f x (n + 1)
so_far_more f x n at later here is = is ∙ ap f here ∙ sym (step_more f x n)

pub far_more : (f : ℕ → ℕ) (x n period at later : ℕ) → at ≡ steps_on f x (n + period)
    → later ≡ f at → later ≡ steps_on f x (n + 1 + period)
far_more f x n period at later here is =
    let count : n + period + 1 ≡ n + 1 + period = omega arith in
    so_far_more f x (n + period) at later here is ∙ ap (steps_on f x) count

pub far_yet : (f : ℕ → ℕ) (x period at : ℕ) → at ≡ steps_on f x period
    → at ≡ steps_on f x (0 + period)
far_yet f x period at here =
    let count : period ≡ 0 + period = omega arith in
    here ∙ ap (steps_on f x) count

-- the steps behind a place that was reached
pub steps_then : (f : ℕ → ℕ) (x n k : ℕ) → steps_on f x (n + k) ≡ steps_on f (steps_on f x n) k
unfolding steps_on
steps_then f x n zero = ap (steps_on f x) (omega arith)
steps_then f x n (suc k) =
    let step : n + suc k ≡ suc (n + k) = omega arith in
    ap (steps_on f x) step ∙ ap f (steps_then f x n k)

-- two indices of one address have one address after as many further steps
pub same_on : (f : ℕ → ℕ) (x i j k : ℕ) → steps_on f x i ≡ steps_on f x j
    → steps_on f x (i + k) ≡ steps_on f x (j + k)
same_on f x i j k same =
    steps_then f x i k ∙ ap (λ y. steps_on f y k) same ∙ sym (steps_then f x j k)

-- where an address comes again by `end`, that of `end` comes again after as many steps
pub comes_again : (f : ℕ → ℕ) (x k i end : ℕ) → k < i → i ≤ end
    → steps_on f x k ≡ steps_on f x i
    → steps_on f (steps_on f x end) (i - k) ≡ steps_on f x end
comes_again f x k i end less within same =
    let on = same_on f x k i (end - k) same in
    let far : i + (end - k) ≡ end + (i - k) = omega arith in
    let near : k + (end - k) ≡ end = omega arith in
    sym (steps_then f x end (i - k)) ∙ sym (ap (steps_on f x) far) ∙ sym on
    ∙ ap (steps_on f x) near

-- an address that comes again has the period of each address behind it
pub has_period : (f : ℕ → ℕ) (x k lap period end fuel t : ℕ) → 0 < lap
    → steps_on f x k ≡ steps_on f x (k + lap)
    → steps_on f x end ≡ steps_on f x (end + period)
    → k ≤ t → end ≤ t + fuel → steps_on f x t ≡ steps_on f x (t + period)
has_period f x k lap period end zero t some same there from near =
    let start : end + (t - end) ≡ t = omega arith in
    let far : end + period + (t - end) ≡ t + period = omega arith in
    sym (ap (steps_on f x) start) ∙ same_on f x end (end + period) (t - end) there
    ∙ ap (steps_on f x) far
has_period f x k lap period end (suc fuel) t some same there from near =
    let one : k + (t - k) ≡ t = omega arith in
    let two : k + lap + (t - k) ≡ t + lap = omega arith in
    let lapped : steps_on f x t ≡ steps_on f x (t + lap) =
    sym (ap (steps_on f x) one) ∙ same_on f x k (k + lap) (t - k) same ∙ ap (steps_on f x) two in
    let later = has_period f x k lap period end fuel (t + lap) some same there (omega arith)
    (omega arith) in
    let swap : t + lap + period ≡ t + period + lap = omega arith in
    let three : k + (t + period - k) ≡ t + period = omega arith in
    let four : k + lap + (t + period - k) ≡ t + period + lap = omega arith in
    let lapped_far : steps_on f x (t + period) ≡ steps_on f x (t + period + lap) =
    sym (ap (steps_on f x) three) ∙ same_on f x k (k + lap) (t + period - k) same
    ∙ ap (steps_on f x) four in
    lapped ∙ later ∙ ap (steps_on f x) swap ∙ sym lapped_far

none_below : (n : ℕ) → 0 < n → n ≤ 0 → ⊥
none_below n some most = omega arith

none_less : (k period : ℕ) → k + period < 0 + period → ⊥
none_less k period less = omega arith

below_none : (n m : ℕ) → (n < m → ⊥) → m ≤ n
below_none n m none = elim (cases_lt n m) [ inl less ↦ absurd (none less) | inr at_most ↦ at_most ]

-- an address that comes again by `end` comes again after the period of `end`, and no sooner
pub again_by : (f : ℕ → ℕ) (x k i period end : ℕ) → k < i → i ≤ end
    → steps_on f x k ≡ steps_on f x i → IsPeriod f (steps_on f x end) period
    → (k + period ≤ i) × (steps_on f x k ≡ steps_on f x (k + period))
again_by f x k i period end less within same is =
    let back = comes_again f x k i end less within same in
    let lap : k + (i - k) ≡ i = omega arith in
    let far : period ≤ i - k = below_none (i - k) period
    (λ below. is.least (i - k) (omega arith) below back) in (
      omega arith,
      has_period f x k (i - k) period end end k (omega arith)
          (same ∙ sym (ap (steps_on f x) lap))
          (sym (steps_then f x end period ∙ is.returns)) (omega arith) (omega arith),
    )

-- ---- what the two searches know after one step more

pub no_return_yet : (f : ℕ → ℕ) (x : ℕ) → NoReturn f x 0
no_return_yet f x n some most = λ is. absurd (none_below n some most)

pub no_return_more : (f : ℕ → ℕ) (x n : ℕ) → NoReturn f x n → steps_on f x (n + 1) ≢ x
    → NoReturn f x (n + 1)
no_return_more f x n none here k some most is = elim (cases_lt n k) [
  | inl above ↦
      let last : k ≡ n + 1 = omega arith in
      here (ap (steps_on f x) (sym last) ∙ is)
  | inr at_most ↦ none k some at_most is
]

pub period_here : (f : ℕ → ℕ) (x n : ℕ) → NoReturn f x n → steps_on f x (n + 1) ≡ x
    → IsPeriod f x (n + 1)
period_here f x n none is = record {
  some = omega arith;
  returns = is;
  least = λ k some less. none k some (omega arith);
}

pub no_meeting_yet : (f : ℕ → ℕ) (x period : ℕ) → NoMeeting f x period (0 + period)
no_meeting_yet f x period k less = λ is. absurd (none_less k period less)

pub no_meeting_more : (f : ℕ → ℕ) (x period n slow fast : ℕ) → NoMeeting f x period (n + period)
    → slow ≡ steps_on f x n → fast ≡ steps_on f x (n + period) → slow ≢ fast
    → NoMeeting f x period (n + 1 + period)
no_meeting_more f x period n slow fast none here there apart k less is = elim (cases_lt k n) [
  | inl before ↦ none k (omega arith) is
  | inr at_least ↦
      let last : k ≡ n = omega arith in
      let same = subst (λ i. steps_on f x i ≡ steps_on f x (i + period)) last is in
      apart (here ∙ same ∙ sym there)
]

-- ---- which addresses come again

-- of the addresses up to this index none comes again
abbrev pub NoneAgain : (ℕ → ℕ) → ℕ → ℕ → Type 0
NoneAgain f x end = (k i : ℕ) → k < i → i ≤ end → steps_on f x k ≢ steps_on f x i

pub none_without_return : (f : ℕ → ℕ) (x end : ℕ) → NoReturn f (steps_on f x end) end
    → NoneAgain f x end
none_without_return f x end none k i less within same =
    none (i - k) (omega arith) (omega arith) (comes_again f x k i end less within same)

pub none_without_meeting : (f : ℕ → ℕ) (x period end far : ℕ) → end ≤ far
    → IsPeriod f (steps_on f x far) period
    → NoMeeting f x period (end + 1) → NoneAgain f x end
none_without_meeting f x period end far near is none k i less within same =
    let again = again_by f x k i period far less (omega arith) same is in
    none k (omega (arith, again.0)) again.1

-- a walk that goes on at each place before one where it does not comes to none again
pub none_before_stop : (f : ℕ → ℕ) (P : ℕ → Type 0) (x end : ℕ)
    → ((k : ℕ) → k < end → P (steps_on f x k)) → (P (steps_on f x end) → ⊥) → NoneAgain f x end
none_before_stop f P x end on stops k i less within same =
    let near : i + (end - i) ≡ end = omega arith in
    let is = same_on f x k i (end - i) same ∙ ap (steps_on f x) near in
    stops (subst P is (on (k + (end - i)) (omega arith)))
