-- A read of n bytes: they are the front of what was left, and what is left now follows them.
use Rattle.std.proofs.Common.{◌≡◌, ℕ, ◌+◌, ◌-◌, ◌≤◌, ◌<◌, min, List, [], ◌++◌, length, take, drop}
use Rattle.std.proofs.Common.{sym, ◌∙◌, ap, arith, length-append, length-drop, length-take}
use Rattle.std.proofs.lemmas.List.{take-append-drop, take-append-le, length-take-le, take_all}
use Rattle.std.proofs.lemmas.List.{drop-drop, nil_from_length}

front_given : (left out : List ℕ) (n : ℕ) → n ≤ length left
    → take n (take n left ++ out) ≡ take n left
front_given left out n within =
    let long : length (take n left) ≡ n = length-take-le n left within in
    take-append-le n (take n left) out (omega arith) ∙ take_all n (take n left) (omega arith)

given_then_left : (left copied out rest : List ℕ) (n : ℕ) → copied ≡ take n left
    → rest ≡ drop n left → n ≤ length left → left ≡ take n (copied ++ out) ++ rest
given_then_left left copied out rest n front after within =
    sym (take-append-drop n left)
    ∙ ap (λ taken. taken ++ drop n left) (sym (front_given left out n within)
    ∙ ap (λ given. take n (given ++ out)) (sym front))
    ∙ ap (λ remains. take n (copied ++ out) ++ remains) (sym after)

-- the rest of the bytes, as the code takes it
rest_whole : (bytes : List ℕ) (at : ℕ) → take (length bytes - at) (drop at bytes) ≡ drop at bytes
rest_whole bytes at = take_all _ (drop at bytes) (omega (arith, length-drop at bytes))

-- copied are n bytes from a place on, as many as there is room for and as are left
pub reads_on : (bytes copied out : List ℕ) (at n : ℕ)
    → copied ≡ take n (take (length bytes - at) (drop at bytes))
    → n ≡ min (length out) (length (take (length bytes - at) (drop at bytes)))
    → (drop at bytes ≡ take n (copied ++ drop n out) ++ drop (at + n) bytes)
    × (n ≡ 0 → 0 < length (copied ++ drop n out) → drop (at + n) bytes ≡ [])
reads_on bytes copied out at n front count =
    let rest = rest_whole bytes at in
    let front' : copied ≡ take n (drop at bytes) = front ∙ ap (take n) rest in
    let count' : n ≡ min (length out) (length (drop at bytes)) = count
    ∙ ap (λ xs. min (length out) (length xs)) rest in (
      given_then_left (drop at bytes) copied (drop n out) (drop (at + n) bytes) n front'
          (sym (drop-drop n at bytes)) (omega arith),
      (λ none room. nil_from_length (drop (at + n) bytes)
          (omega (
            arith,
            length-drop (at + n) bytes,
            length-drop at bytes,
            length-append copied
                (drop n out),
            length-drop n out,
            ap length front',
            length-take n (drop at bytes),
          ))),
    )
