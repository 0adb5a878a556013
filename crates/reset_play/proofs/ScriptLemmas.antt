-- Parts, numbers and lines of a script.
use Rattle.std.proofs.Common.{◌≡◌, ℕ, suc, ◌+◌, ◌-◌, ◌*◌, ◌^◌, ◌<◌, ◌≤◌, min, true, not, ◌==◌, List}
use Rattle.std.proofs.Common.{[], ◌∷◌, ◌++◌, length, get_or, take, drop, add-one, length-drop}
use Rattle.std.proofs.Common.{append_assoc, Some, Ok, Err, nat_lt, ⊎_elim, refl, sym, ap, ◌∙◌}
use Rattle.std.proofs.Common.{subst, lit<, arith}
use Rattle.std.proofs.Math.Nat.{pow-le-pow_right, pow-suc}
use Rattle.std.proofs.Math.Seq.{drop-cons}
use Rattle.std.proofs.lemmas.Bool.{not-true, cases_lt, lt-ltb}
use Rattle.std.proofs.lemmas.List.{take_all, length_push}
use Rattle.std.proofs.lemmas.List.Splits.{slice_split_first, slice_split_none}
use Rattle.std.proofs.lemmas.List.Sums.{prefix_len_passes}
use Rattle.std.specs.List.{prefix_len}
use Rattle.reference_machine.specs.declared.event.Event.{Event}
use Rattle.reset_play.specs.declared.script.limits.TheConstants.{MAX_EVENTS}
use Rattle.reset_play.specs.ScriptText.{ScriptSaid, behind, line_said, lines_said}
use Rattle.reset_play.specs.ScriptWords.{parts, parts_behind, decimal_behind, hex_behind, hex_value}
use Rattle.reset_play.specs.ScriptWords.{hex_pairs}

-- the parts of a text that has a mark, and of one that has none
split_at : (mark : ℕ) (text : List ℕ) → prefix_len (λ b. not (b == mark)) text < length text
    → parts mark text
    ≡ take (prefix_len (λ b. not (b == mark)) text) text
    ∷ parts_behind mark (drop (prefix_len (λ b. not (b == mark)) text) text)
split_at mark text before =
    let n = prefix_len (λ b. not (b == mark)) text in
    let rest : drop n text ≡ get_or text n 0 ∷ drop (suc n) text = drop-cons text n 0 before in
    rw rest (rw (← add-one n) (slice_split_first (λ b. b == mark) text 0 before))

pub parts_at : (mark : ℕ) (text : List ℕ) (n : ℕ) → n ≡ prefix_len (λ b. not (b == mark)) text
    → n < length text
    → parts mark text ≡ take n text ∷ parts_behind mark (take (length text - n) (drop n text))
parts_at mark text n is_place within =
    let P : ℕ → Type 0 =
    λ k. k < length text → parts mark text ≡ take k text ∷ parts_behind mark (drop k text) in
    let whole : take (length text - n) (drop n text) ≡ drop n text =
    take_all (length text - n) (drop n text) (simp length-drop (omega arith)) in
    rw whole (subst P (sym is_place) (λ before. split_at mark text before) within)

pub parts_none : (mark : ℕ) (text : List ℕ) (n : ℕ) → n ≡ prefix_len (λ b. not (b == mark)) text
    → length text ≤ n
    → parts mark text ≡ text ∷ []
parts_none mark text n is_place past =
    slice_split_none (λ b. b == mark) text
    (λ k d within. not-true _ (prefix_len_passes (λ b. not (b == mark)) text k d (omega arith)))

-- a number only grows with its digits
grows : (n : ℕ) (digits : List ℕ) → n ≤ decimal_behind n digits
grows n [] = omega arith
grows n (c ∷ cs) = omega (arith, grows (10 * n + (c - 48)) cs)

-- a number that has reached the greatest stays there
capped : (n m : ℕ) (digits : List ℕ) → m ≡ min n 4294967295
    → min (decimal_behind m digits) 4294967295 ≡ min (decimal_behind n digits) 4294967295
capped n m digits is_least = ⊎_elim {A = n < 4294967295} {B = 4294967295 ≤ n}
    (λ below. let same : m
    ≡ n = omega arith in ap (λ (k : ℕ). min (decimal_behind k digits) 4294967295) same)
    (λ above. let same : m ≡ 4294967295 = omega arith in
    omega (arith, grows m digits, grows n digits))
    (cases_lt n 4294967295)

-- one more digit
pub decimal_more : (n : ℕ) (digits : List ℕ) (i : ℕ) → i < length digits
    → decimal_behind n (drop i digits)
    ≡ decimal_behind (10 * n + (get_or digits i 0 - 48)) (drop (suc i) digits)
decimal_more n digits i within = ap (decimal_behind n) (drop-cons digits i 0 within)

-- the same where the number is cut at the greatest
pub capped_more : (n m : ℕ) (digits : List ℕ) (i : ℕ) → i < length digits
    → m ≡ min (10 * n + (get_or digits i 0 - 48)) 4294967295
    → min (decimal_behind m (drop (i + 1) digits)) 4294967295
    ≡ min (decimal_behind n (drop i digits)) 4294967295
capped_more n m digits i within is_least =
    capped (10 * n + (get_or digits i 0 - 48)) m (drop (i + 1) digits) is_least
    ∙ rw (add-one i) (ap (λ (k : ℕ). min k 4294967295) (sym (decimal_more n digits i within)))

pub hex_more : (n : ℕ) (digits : List ℕ) (i : ℕ) → i < length digits
    → hex_behind n (drop i digits)
    ≡ hex_behind (16 * n + hex_value (get_or digits i 0)) (drop (suc i) digits)
hex_more n digits i within = ap (hex_behind n) (drop-cons digits i 0 within)

-- the numbers of up to sixteen digits fit 64 bits
pub sixteen_fit : (i : ℕ) → i < 16 → 16 ^ i * 16 ≤ 2 ^ 64
sixteen_fit i within =
    let more : 16 ^ suc i ≤ 16 ^ 16 = pow-le-pow_right {n = 16} (lit< tt) {j = 16} (omega arith) in
    rw (← pow-suc 16 i) more

-- two more digits
pub pairs_more : (digits : List ℕ) (i : ℕ) → suc i < length digits
    → hex_pairs (drop i digits)
    ≡ (16 * hex_value (get_or digits i 0) + hex_value (get_or digits (suc i) 0))
    ∷ hex_pairs (drop (suc (suc i)) digits)
pairs_more digits i within =
    ap hex_pairs (drop-cons digits i 0 (omega arith)
    ∙ ap (λ (rest : List ℕ). get_or digits i 0 ∷ rest) (drop-cons digits (suc i) 0 within))

abbrev all_read : List Event → ScriptSaid
all_read events = Ok events

-- what stands before events stands before the events behind them
behind_behind : (before events : List Event) (said : ScriptSaid)
    → behind before (behind events said) ≡ behind (before ++ events) said
behind_behind before events (Ok more) = ap all_read (sym (append_assoc before events more))
behind_behind before events (Err fault) = refl

-- the event of a line goes to the events so far
pub taken : (before after : List Event) (event : Event) (number : ℕ) (line : List ℕ)
    (rest : List (List ℕ))
    → line_said line ≡ Ok (Some event) → after ≡ before ++ event ∷ [] → length before < MAX_EVENTS
    → behind before (lines_said number (length before) (line ∷ rest))
    ≡ behind after (lines_said (number + 1) (length after) rest)
taken before after event number line rest said is_after room =
    let grown : length (before ++ event ∷ []) ≡ length before + 1 = length_push before event in
    let holds : nat_lt (length before) MAX_EVENTS ≡ true = lt-ltb _ _ room in
    rw (is_after, said, holds)
    (behind_behind before (event ∷ []) (lines_said (number + 1) (length before + 1) rest)
    ∙ ap (λ (n : ℕ). behind (before ++ event ∷ []) (lines_said (number + 1) n rest)) (sym grown))

-- the byte of two more digits goes to the bytes so far
pub pairs_step : (old new word : List ℕ) (at byte : ℕ) → 2 * at + 1 < length word
    → byte ≡ 16 * hex_value (get_or word (2 * at) 0) + hex_value (get_or word (2 * at + 1) 0)
    → new ≡ old ++ byte ∷ []
    → old ++ hex_pairs (drop (2 * at) word) ≡ hex_pairs word
    → new ++ hex_pairs (drop (2 * (at + 1)) word) ≡ hex_pairs word
pairs_step old new word at byte within is_byte is_new so_far =
    let place : 2 * (at + 1) ≡ suc (suc (2 * at)) = omega arith in
    let more = pairs_more word (2 * at) (omega arith) in
    let next : byte ∷ hex_pairs (drop (suc (suc (2 * at))) word) ≡ hex_pairs (drop (2 * at) word) =
    ap (λ (b : ℕ). b ∷ hex_pairs (drop (suc (suc (2 * at))) word)) (rw (← add-one (2 * at)) is_byte)
    ∙ sym more in
    rw (is_new, place)
    (append_assoc old (byte ∷ []) _ ∙ ap (λ (l : List ℕ). old ++ l) next ∙ so_far)
