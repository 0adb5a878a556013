-- Bytes that are read by pieces into a buffer.
use Rattle.std.proofs.Common.{◌≡◌, ◌∙◌, ◌+◌, ◌≤◌, ◌++◌, ℕ, List, length, take, drop, ap, sym, arith}
use Rattle.std.proofs.lemmas.List.{drop-drop, length-drop, length-take-le}
use Rattle.std.proofs.lemmas.Slice.{take-put_mid}
use Rattle.std.proofs.Math.Seq.{take-add}
use borrow.Rule.Slice.PartMut.{put_mid, same_len_mid}
use Rattle.cu_base.specs.Fields.{field}

pub piece_read : (b out piece : List ℕ) (at r k n : ℕ) → take r out ≡ field b at r → r ≤ length out
    → length piece ≡ n → field b (at + r) (length piece) ≡ piece
    → take (r + n) (put_mid r k out piece) ≡ field b at (r + n)
piece_read b out piece at r k n so_far low long reads =
    take-put_mid r k out piece (r + n) (omega (arith, long)) low
    ∙ ap (λ (l : List ℕ). l ++ piece) so_far
    ∙ ap (λ (l : List ℕ). field b at r ++ l) (sym reads)
    ∙ ap (λ (l : List ℕ). field b at r ++ take (length piece) l) (sym (drop-drop r at b))
    ∙ sym (take-add r (length piece) (drop at b))
    ∙ ap (λ (m : ℕ). take (r + m) (drop at b)) long

pub piece_long : (out piece : List ℕ) (r k n : ℕ) → k ≡ n → length piece ≡ n → r + n ≤ length out
    → length (put_mid r k out piece) ≡ length out
piece_long out piece r k n is long fits =
    same_len_mid r k out piece
    (omega (arith, is, long, length-take-le k (drop r out) (omega (arith, is, length-drop r out))))
