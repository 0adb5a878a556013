-- The files of a folder in order are a listing, and so is each front of them.
use Rattle.std.proofs.Common.{◌≡◌, ℕ, ◌+◌, ◌≤◌, ◌<◌, Bool, List, [], ◌∷◌, ◌++◌, length, get_or, sum_by, All}
use Rattle.std.proofs.Common.{AllPairs, sym, ap, ◌∙◌, subst, arith, append_assoc, length-append, IsPermutation}
use Rattle.std.proofs.lemmas.List.{get_or_append_left}
use Rattle.std.proofs.lemmas.List.Sorted.{All-permutation, length_permutation}
use Rattle.std.proofs.lemmas.List.Sorted.{sum_by-IsPermutation}
use Rattle.std.proofs.lemmas.List.Sums.{sum_by-append}
use Rattle.bench_model.specs.Files.{HaveOtherNames, HaveOtherSerials, IsListedFile, IsListing}
use Rattle.bench_model.specs.Files.{ListedFile}
use Rattle.reference_machine.specs.Names.{is_taken_before}
use Rattle.reference_machine.specs.Order.{in_order}
use Rattle.reference_machine.proofs.Sorted.{pairs_ordered}

pairs_in_front : (R : ListedFile → ListedFile → Type 0) (xs ys : List ListedFile)
    → AllPairs R (xs ++ ys) → AllPairs R xs
pairs_in_front R xs ys h i j d low high =
    subst (λ x. R x (get_or xs j d)) (get_or_append_left xs ys d i (omega arith))
    (subst (R (get_or (xs ++ ys) i d)) (get_or_append_left xs ys d j high)
    (h i j d low (omega (arith, length-append xs ys))))

-- the front of a listing is a listing
pub front_is_listing : (xs ys : List ListedFile) → IsListing (xs ++ ys) → IsListing xs
front_is_listing xs ys is = record {
  each = λ k d below. subst IsListedFile (get_or_append_left xs ys d k below)
      (is.each k d (omega (arith, length-append xs ys)));
  names = pairs_in_front HaveOtherNames xs ys is.names;
  serials = pairs_in_front HaveOtherSerials xs ys is.serials;
  most = omega (arith, is.most, length-append xs ys);
  bytes = omega (arith, is.bytes, sum_by-append (λ (x : ListedFile). x.size) xs ys);
}

-- a listing put in order is a listing
pub order_is_listing : (xs ys : List ListedFile) → IsPermutation xs ys
    → ys ≡ in_order (λ x y. is_taken_before x.name y.name) xs → IsListing xs → IsListing ys
order_is_listing xs ys moved is l = record {
  each = All-permutation IsListedFile xs ys moved l.each;
  names = subst (AllPairs HaveOtherNames) (sym is)
      (pairs_ordered HaveOtherNames before (λ x y h e. h (sym e)) xs l.names);
  serials = subst (AllPairs HaveOtherSerials) (sym is)
      (pairs_ordered HaveOtherSerials before (λ x y h e. h (sym e)) xs l.serials);
  most = omega (arith, l.most, length_permutation xs ys moved);
  bytes = omega (arith, l.bytes, sum_by-IsPermutation (λ (x : ListedFile). x.size) xs ys moved);
}
  where
    before : ListedFile → ListedFile → Bool
    before x y = is_taken_before x.name y.name

-- one file more of a listing is listed
pub next_is_listing : (done left all : List ListedFile) (x : ListedFile) → done ++ left ≡ all
    → 0 < length left → x ≡ get_or left 0 x → IsListing all → IsListing (done ++ x ∷ [])
next_is_listing done [] all x parts some first is = absurd (omega arith)
next_is_listing done (y ∷ ys) all x parts some first is =
    front_is_listing (done ++ x ∷ []) ys (subst IsListing
    (sym (append_assoc done (x ∷ []) ys ∙ ap (λ z. done ++ z ∷ ys) first ∙ parts)) is)
