-- Serials in kept: what is stored of the progress of files, and which units are left to be done.
use Rattle.std.proofs.Common.{◌≡◌, ℕ, ◌+◌, ◌<◌, ◌≤◌, ◌⊎◌, Bool, true, false, cond, not, ◌&&◌, ◌||◌}
use Rattle.std.proofs.Common.{◌==◌, List, [], ◌∷◌, ◌++◌, map, filter, refl, arith, sym, ap}
use Rattle.std.proofs.Common.{◌∙◌, subst}
use Rattle.std.specs.List.{AllByRecursion, list_any}
use Rattle.std.proofs.lemmas.Bool.Decides.{nat_tests}
use Rattle.cu_base.proofs.Lists.{filter_more}
use Rattle.reference_machine.specs.declared.unit.UnitKey.{UnitKey}
use Rattle.reference_machine.specs.Boots.{BootTask, progress_with, unit_tasks}
use Rattle.reference_machine.specs.Boots.BootTask.{Commits, Removes}
use Rattle.reference_machine.specs.Boots.BootBatch.{Settles, Unstages, Does, Prunes, Clears}
use Rattle.reference_machine.specs.Deliveries.{BootUnit}
use Rattle.bench_model.specs.Files.{File}
use Rattle.reference_machine.specs.Spent.{Element, is_of, is_open, is_closed, spent}
use Rattle.reference_machine.proofs.Keys.{Numbered}
use Rattle.reference_machine.proofs.Tests.{both_left, both_right}

-- a number stands in a list
abbrev pub has : List ℕ → ℕ → Bool
has ns n = list_any (λ s. s == n) ns

abbrev pub serials_of : List File → List ℕ
serials_of files = map (λ x. x.serial) files

pub same_of : (m n : ℕ) → (m == n) ≡ true → m ≡ n
same_of m n h = grind (arith, nat_tests)

pub same : (n : ℕ) → (n == n) ≡ true
same n = grind (arith, nat_tests)

or_left : (a b : Bool) → a ≡ true → (a || b) ≡ true
or_left true b h = refl
or_left false b h = cc

pub or_right : (a b : Bool) → b ≡ true → (a || b) ≡ true
or_right true b h = refl
or_right false b h = h

-- what holds of each number holds of one that stands there
pub has_all : (P : ℕ → Type 0) (ns : List ℕ) (n : ℕ) → AllByRecursion P ns → has ns n ≡ true → P n
has_all P [] n all h = absurd (cc)
has_all P (m ∷ ms) n all h = by_test (m == n) refl (has_all P ms n all.1) h
  where
    by_test : (b : Bool) → (m == n) ≡ b → (has ms n ≡ true → P n) → (b || has ms n) ≡ true → P n
    by_test true e later k = subst P (same_of m n e) all.0
    by_test false e later k = later k

-- and one that stays in what is kept of them stands there too
pub has_filter : (keep : ℕ → Bool) (ns : List ℕ) (n : ℕ) → keep n ≡ true → has ns n ≡ true
    → has (filter keep ns) n ≡ true
has_filter keep [] n is h = h
has_filter keep (m ∷ ms) n is h = by_test (m == n) refl (has_filter keep ms n is) h
  where
    by_test : (b : Bool) → (m == n) ≡ b → (has ms n ≡ true → has (filter keep ms) n ≡ true)
        → (b || has ms n) ≡ true → has (filter keep (m ∷ ms)) n ≡ true
    by_test true e later t =
        let passes : keep m ≡ true = ap keep (same_of m n e) ∙ is in
        ap (λ b. has (cond b (m ∷ filter keep ms) (filter keep ms)) n) passes
        ∙ ap (λ b. b || has (filter keep ms) n) e
    by_test false e later t =
        elim (keep m) as (λ b. has (cond b (m ∷ filter keep ms) (filter keep ms)) n ≡ true) [
          | true ↦ or_right (m == n) _ (later t)
          | false ↦ later t
        ]

has_front : (ns : List ℕ) (m n : ℕ) → has ns n ≡ true → has (ns ++ m ∷ []) n ≡ true
has_front [] m n h = cc
has_front (k ∷ ks) m n h =
    elim (k == n) as (λ b. (b || has ks n) ≡ true → (b || has (ks ++ m ∷ []) n) ≡ true) [
      | true ↦ λ e. refl
      | false ↦ has_front ks m n
    ] h

has_last : (ns : List ℕ) (n : ℕ) → has (ns ++ n ∷ []) n ≡ true
has_last [] n = or_left (n == n) false (same n)
has_last (k ∷ ks) n = or_right (k == n) _ (has_last ks n)

-- what is kept stays when one more serial is kept
pub kept_stays : (in_progress : List ℕ) (key : UnitKey) (s : ℕ) → has in_progress s ≡ true
    → has (progress_with in_progress key) s ≡ true
kept_stays in_progress key s h =
    elim (key.ticket.route == 1) as
    (λ r. has (cond r
    (cond (has in_progress key.ticket.serial) in_progress
    (in_progress ++ key.ticket.serial ∷ [])) in_progress) s ≡ true) [
      | true ↦
          elim (has in_progress key.ticket.serial) as
          (λ b. has (cond b in_progress (in_progress ++ key.ticket.serial ∷ [])) s ≡ true) [
            | true ↦ h
            | false ↦ has_front in_progress key.ticket.serial s h
          ]
      | false ↦ h
    ]

one_kept : (in_progress : List ℕ) (n : ℕ)
    → has (cond (has in_progress n) in_progress (in_progress ++ n ∷ [])) n ≡ true
one_kept in_progress n = by_test (has in_progress n) refl
  where
    by_test : (b : Bool) → has in_progress n ≡ b
        → has (cond b in_progress (in_progress ++ n ∷ [])) n ≡ true
    by_test true e = e
    by_test false e = has_last in_progress n

-- and that of a unit of a file is kept
pub unit_kept : (in_progress : List ℕ) (key : UnitKey) (s : ℕ) → is_of 1 s key ≡ true
    → has (progress_with in_progress key) s ≡ true
unit_kept in_progress key s h =
    let route : (key.ticket.route == 1) ≡ true =
    both_left (key.ticket.route == 1) (key.ticket.serial == s) h in
    let serial : key.ticket.serial ≡ s =
    same_of key.ticket.serial s
    (both_right (key.ticket.route == 1) (key.ticket.serial == s) h) in
    let kept_all : List ℕ =
    cond (has in_progress key.ticket.serial) in_progress
    (in_progress ++ key.ticket.serial ∷ []) in
    let at : has (cond (key.ticket.route == 1) kept_all in_progress) key.ticket.serial ≡ true =
    ap (λ r. has (cond r kept_all in_progress) key.ticket.serial) route
    ∙ one_kept in_progress key.ticket.serial in
    subst (λ i. has (cond (key.ticket.route == 1) kept_all in_progress) i ≡ true) serial at

-- one more element
pub spent_more : (list : List Element) (e : Element) (s : ℕ)
    → spent (list ++ e ∷ []) s ≡ spent list s + cond (is_of 1 s e.key && is_closed e) 1 0
spent_more list e s = filter_more (λ x. is_of 1 s x.key && is_closed x) list e

-- nothing is spent of a file, or its serial is kept
abbrev pub IsKept : List Element → List ℕ → ℕ → Type 0
IsKept list in_progress s = 0 < spent list s → has in_progress s ≡ true

pub kept_more : (list : List Element) (in_progress : List ℕ) (e : Element) (s : ℕ)
    → IsKept list in_progress s → IsKept (list ++ e ∷ []) (progress_with in_progress e.key) s
kept_more list in_progress e s h lt = by_test (is_of 1 s e.key) refl
  where
    by_test : (b : Bool) → is_of 1 s e.key ≡ b → has (progress_with in_progress e.key) s ≡ true
    by_test true k = unit_kept in_progress e.key s k
    by_test false k =
        let more : spent (list ++ e ∷ []) s
        ≡ spent list s + cond (is_of 1 s e.key && is_closed e) 1 0 = spent_more list e s in
        let none : cond {A = ℕ} (is_of 1 s e.key && is_closed e) 1 0 ≡ 0 =
        ap (λ b. cond {A = ℕ} (b && is_closed e) 1 0) k in
        let before : 0 < spent list s = omega arith in
        kept_stays in_progress e.key s (h before)

pub kept_front : (list : List Element) (in_progress : List ℕ) (e : Element) (s : ℕ)
    → IsKept (list ++ e ∷ []) in_progress s → IsKept list in_progress s
kept_front list in_progress e s h lt =
    let more : spent (list ++ e ∷ []) s ≡ spent list s + cond (is_of 1 s e.key && is_closed e) 1 0 =
    spent_more list e s in
    let later : 0 < spent (list ++ e ∷ []) s = omega arith in
    h later

pub kept_open : (list : List Element) (in_progress : List ℕ) (e : Element) (s : ℕ)
    → is_open e ≡ true → IsKept list in_progress s → IsKept (list ++ e ∷ []) in_progress s
kept_open list in_progress e s is h lt =
    let more : spent (list ++ e ∷ []) s ≡ spent list s + cond (is_of 1 s e.key && is_closed e) 1 0 =
    spent_more list e s in
    let none : cond {A = ℕ} (is_of 1 s e.key && is_closed e) 1 0 ≡ 0 =
    ap (λ b. cond {A = ℕ} (is_of 1 s e.key && not b) 1 0) is ∙ never (is_of 1 s e.key) in
    let before : 0 < spent list s = omega arith in
    h before
  where
    never : (b : Bool) → cond {A = ℕ} (b && false) 1 0 ≡ 0
    never true = refl
    never false = refl

-- a unit is of a delivery by memory up to the last one, or of a file whose serial stands in a list
abbrev pub IsKnown : ℕ → List ℕ → UnitKey → Type 0
IsKnown last serials key =
    ((key.ticket.route ≡ 0) × (key.ticket.serial ≤ last))
    ⊎ ((key.ticket.route ≡ 1) × (has serials key.ticket.serial ≡ true))

-- and so is each that is left
abbrev pub Known : ℕ → List ℕ → List BootTask → Type 0
Known last serials [] = Unit {0}
Known last serials (Commits (Settles kind end) ∷ rest) = Known last serials rest
Known last serials (Commits (Unstages pair) ∷ rest) = Known last serials rest
Known last serials (Commits (Does u) ∷ rest) = IsKnown last serials u.key × Known last serials rest
Known last serials (Commits Prunes ∷ rest) = Known last serials rest
Known last serials (Removes serial ∷ rest) = Known last serials rest
Known last serials (Commits Clears ∷ rest) = Known last serials rest

pub known_append : (last : ℕ) (serials : List ℕ) (xs ys : List BootTask) → Known last serials xs
    → Known last serials ys → Known last serials (xs ++ ys)
known_append last serials [] ys a b = b
known_append last serials (Commits (Settles kind end) ∷ xs) ys a b =
    known_append last serials xs ys a b
known_append last serials (Commits (Unstages pair) ∷ xs) ys a b =
    known_append last serials xs ys a b
known_append last serials (Commits (Does unit) ∷ xs) ys a b =
    (a.0, known_append last serials xs ys a.1 b)
known_append last serials (Commits Prunes ∷ xs) ys a b = known_append last serials xs ys a b
known_append last serials (Removes serial ∷ xs) ys a b = known_append last serials xs ys a b
known_append last serials (Commits Clears ∷ xs) ys a b = known_append last serials xs ys a b

pub known_units : (last : ℕ) (serials : List ℕ) (r s n : ℕ) (us : List BootUnit) → Numbered r s n us
    → ((r ≡ 0) × (s ≤ last)) ⊎ ((r ≡ 1) × (has serials s ≡ true))
    → Known last serials (unit_tasks us)
known_units last serials r s n [] h w = tt
known_units last serials r s n (u ∷ us) h w =
    let route : ((u.key.ticket.route ≡ 0) × (s ≤ last))
    ⊎ ((u.key.ticket.route ≡ 1) × (has serials s ≡ true)) =
    subst (λ i. ((i ≡ 0) × (s ≤ last)) ⊎ ((i ≡ 1) × (has serials s ≡ true)))
    (sym h.0.route) w in
    let here : IsKnown last serials u.key =
    subst (λ i. ((u.key.ticket.route ≡ 0) × (i ≤ last))
    ⊎ ((u.key.ticket.route ≡ 1) × (has serials i ≡ true))) (sym h.0.serial) route in
    (here, known_units last serials r s (n + 1) us h.1 w)

-- no file is left where the request for the files is cleared
abbrev pub Empties : List File → List BootTask → Type 0
Empties files [] = Unit {0}
Empties files (Commits (Settles kind end) ∷ rest) = Empties files rest
Empties files (Commits (Unstages pair) ∷ rest) = Empties files rest
Empties files (Commits (Does u) ∷ rest) = Empties files rest
Empties files (Commits Prunes ∷ rest) = Empties files rest
Empties files (Removes serial ∷ rest) = Empties (filter (λ x. not (x.serial == serial)) files) rest
Empties files (Commits Clears ∷ rest) = (files ≡ []) × Empties files rest

pub empties_does : (us : List BootUnit) (files : List File) (rest : List BootTask)
    → Empties files rest → Empties files (unit_tasks us ++ rest)
empties_does [] files rest e = e
empties_does (u ∷ us) files rest e = empties_does us files rest e
