-- Folders after a put and a remove, and fronts of their listings.
use Rattle.std.proofs.Common.{◌⊎◌, inl, inr, ◌≡◌, ◌≢◌, ℕ, ◌+◌, ◌-◌, ◌^◌, ◌<◌, ◌≤◌, ◌&&◌, ◌||◌, Bool}
use Rattle.std.proofs.Common.{true, false, not, nat_le, nat_lt, List, [], ◌∷◌, ◌++◌, length, take}
use Rattle.std.proofs.Common.{get_or, filter, fold, sum_by, AllPairs, IsTrue, refl, ap, sym, ◌∙◌}
use Rattle.std.proofs.Common.{subst, arith, length-append}
use Rattle.std.specs.List.{list_any}
use Rattle.std.specs.Str.{str_to_ascii_uppercase}
use Rattle.std.proofs.lemmas.Bool.{false≢true, cases_Bool, leb-false, ltb-false}
use Rattle.std.proofs.lemmas.List.{get_or-map, get_or-take, length-map, length-take, map-append}
use Rattle.std.proofs.lemmas.List.{take_more}
use Rattle.std.proofs.lemmas.List.Elements.{All-filter, All-map, All-push, All-take, filter_passes}
use Rattle.std.proofs.lemmas.List.Filters.{length-filter_both, sum_by-filter_both}
use Rattle.std.proofs.lemmas.List.Kept.{AllPairs-filter}
use Rattle.std.proofs.lemmas.List.Quantifiers.{all_pairs_push}
use Rattle.std.proofs.lemmas.List.Sums.{sum_by-append, sum_by-take-le}
use Rattle.std.proofs.lemmas.Slice.Eq.{bytes_eq-Decides}
use Rattle.bench_model.specs.declared.outside_limits.TheConstants.{MAX_FILE_BYTES, MAX_FILES}
use Rattle.bench_model.specs.declared.outside_limits.TheConstants.{MAX_FOLDER_BYTES}
use Rattle.bench_model.specs.Files.{File, FolderValue, ListedFile, IsListing, IsListedFile}
use Rattle.bench_model.specs.Files.{HaveOtherNames, HaveOtherSerials, bytes_in, has_file}
use Rattle.bench_model.specs.Files.{is_file_name, is_folder_full, is_same_name, listed, others_than}
use Rattle.bench_model.specs.Files.{with_put}
use Rattle.mem_bench.specs.Folders.{IsFile, IsFolder, DifferInName, DifferInSerial}

-- a sum over a part is at most the whole
pub kept_less : (p : File → Bool) (f : File → ℕ) (xs : List File)
    → sum_by f (filter p xs) ≤ sum_by f xs
kept_less p f xs = omega (arith, sum_by-filter_both p (λ x. not (p x)) (λ x. refl) f xs)

fewer : (p : File → Bool) (xs : List File) → length (filter p xs) ≤ length xs
fewer p xs = omega (arith, length-filter_both p (λ x. not (p x)) (λ x. refl) xs)

pub IsFolder-filter : (p : File → Bool) (f : FolderValue) → IsFolder f
    → IsFolder (record f { files = filter p f.files })
IsFolder-filter p f rule = record {
  each = All-filter p (IsFile f.last_serial) f.files rule.each;
  names = AllPairs-filter DifferInName p f.files rule.names;
  serials = AllPairs-filter DifferInSerial p f.files rule.serials;
  most = omega (arith, fewer p f.files, rule.most);
  bytes = omega (arith, kept_less p (λ (x : File). length x.bytes) f.files, rule.bytes);
}

-- a filter of what fails a test that some element passes leaves fewer
one_fewer : (q : File → Bool) (xs : List File) → list_any q xs ≡ true
    → length (filter (λ x. not (q x)) xs) + 1 ≤ length xs
one_fewer q [] some = absurd (false≢true some)
one_fewer q (x ∷ xs) some =
    elim (cases_Bool (q x)) [
      | inl is ↦ rw is (omega (arith, fewer (λ y. not (q y)) xs))
      | inr not_is ↦ rw not_is (omega (
        arith,
        one_fewer q xs
            (subst (λ (b : Bool). (b || list_any q xs) ≡ true) not_is some),
      ))
    ]

-- the three tests of a full folder
not_full : (a b c d : Bool) → ((a && not b) || c || d) ≡ false
    → ((a ≡ false) ⊎ (b ≡ true)) × (c ≡ false) × (d ≡ false)
not_full false b false false none = (inl refl, refl, refl)
not_full true true false false none = (inr refl, refl, refl)
not_full true false c d none = absurd (false≢true (sym none))
not_full false b true d none = absurd (false≢true (sym none))
not_full false b false true none = absurd (false≢true (sym none))
not_full true true true d none = absurd (false≢true (sym none))
not_full true true false true none = absurd (false≢true (sym none))

-- what is left of a name's others has another name
apart : (name : List ℕ) (xs : List File) (k : ℕ) (d : File) → k < length (others_than name xs)
    → str_to_ascii_uppercase (get_or (others_than name xs) k d).name ≢ str_to_ascii_uppercase name
apart name xs k d within same =
    let passes : not (is_same_name (get_or (others_than name xs) k d).name name) ≡ true =
    filter_passes (λ x. not (is_same_name x.name name)) xs k d within in
    let is : is_same_name (get_or (others_than name xs) k d).name name ≡ true =
    (bytes_eq-Decides _ _).1 same in
    false≢true (ap not (sym is) ∙ passes)

-- a name that is not new takes a place of its own, else there is one left
put_count : (f : FolderValue) (name : List ℕ) → IsFolder f
    → (nat_le MAX_FILES (length f.files) ≡ false) ⊎ (has_file name f.files ≡ true)
    → length (others_than name f.files) + 1 ≤ MAX_FILES
put_count f name rule (inl few) =
    omega (arith, leb-false _ _ few, fewer (λ x. not (is_same_name x.name name)) f.files)
put_count f name rule (inr there) =
    omega (arith, rule.most, one_fewer (λ x. is_same_name x.name name) f.files there)

pub IsFolder-put : (f : FolderValue) (name bytes : List ℕ) → IsFolder f → IsTrue (is_file_name name)
    → length bytes ≤ MAX_FILE_BYTES
    → is_folder_full f name (length bytes) ≡ false → IsFolder (with_put f name bytes)
IsFolder-put f name bytes rule named small room =
    let tests : ((nat_le MAX_FILES (length f.files) ≡ false) ⊎ (has_file name f.files ≡ true))
    × (nat_lt MAX_FOLDER_BYTES (bytes_in (others_than name f.files) + length bytes) ≡ false)
    × (nat_le (2 ^ 64 - 1) f.last_serial ≡ false) = not_full _ _ _ _ room in
    let kept : List File = others_than name f.files in
    let new : File = record { name = name; serial = f.last_serial + 1; bytes = bytes } in
    let rest : IsFolder (record f { files = kept }) = IsFolder-filter
    (λ x. not (is_same_name x.name name)) f rule in
    record {
      each = All-push (IsFile (f.last_serial + 1)) kept new
          (λ k d within. let one : IsFile f.last_serial (get_or kept k d) = rest.each k d within in
          record { name = one.name; size = one.size; drawn = omega (arith, one.drawn) })
          (record { name = named; size = small; drawn = omega arith });
      names = all_pairs_push DifferInName kept new rest.names
          (λ k d within. apart name f.files k d within);
      serials = all_pairs_push DifferInSerial kept new rest.serials
          (λ k d within same. absurd (omega (arith, same, (rest.each k d within).drawn)));
      most = omega (arith, length-append kept (new ∷ []), put_count f name rule tests.0);
      bytes = omega (
        arith,
        sum_by-append (λ (x : File). length x.bytes) kept
            (new ∷ []),
        ltb-false _ _ tests.1,
      );
    }

-- what a listing tells of a file
abbrev pub tell : File → ListedFile
tell x = record { name = x.name; serial = x.serial; size = length x.bytes }

no_file : File
no_file = record { name = []; serial = 0; bytes = [] }

front_pairs : (R : ListedFile → ListedFile → Type 0) (xs : List File) (n : ℕ)
    → AllPairs (λ x y. R (tell x) (tell y)) xs → AllPairs R (listed (take n xs))
front_pairs R xs n pairs i j d below within =
    let inside : j < length (take n xs) = omega (arith, length-map (take n xs) tell) in
    let here : j < n = omega (arith, length-take n xs) in
    let there : j < length xs = omega (arith, length-take n xs) in
    let at : (k : ℕ) → k ≤ j → get_or (listed (take n xs)) k d ≡ tell (get_or xs k no_file) =
    λ k le. get_or-map tell (take n xs) k no_file d (omega arith)
    ∙ ap tell (get_or-take n xs k no_file (omega arith)) in
    subst (λ (y : ListedFile). R (get_or (listed (take n xs)) i d) y) (sym (at j (omega arith)))
    (subst (λ (x : ListedFile). R x (tell (get_or xs j no_file))) (sym (at i (omega arith)))
    (pairs i j no_file below there))

sum_of_map : (xs : List File) (a : ℕ)
    → fold (λ a (x : ListedFile). a + x.size) a (listed xs)
    ≡ fold (λ a (x : File). a + length x.bytes) a xs
sum_of_map [] a = refl
sum_of_map (x ∷ xs) a = sum_of_map xs (a + length x.bytes)

sizes : (xs : List File) → sum_by (λ (x : ListedFile). x.size) (listed xs) ≡ bytes_in xs
sizes xs = sum_of_map xs 0

size_of_front : (xs : List File) (n : ℕ)
    → sum_by (λ (x : ListedFile). x.size) (listed (take n xs)) ≡ bytes_in (take n xs)
size_of_front xs n = sizes (take n xs)

pub IsListing-front : (f : FolderValue) (n : ℕ) → IsFolder f → IsListing (listed (take n f.files))
IsListing-front f n rule = record {
  each = All-map IsListedFile tell (take n f.files) (λ k d within.
      let one : IsFile f.last_serial (get_or (take n f.files) k d) =
      All-take (IsFile f.last_serial) n f.files rule.each k d within in
      record { name = one.name; size = one.size });
  names = front_pairs HaveOtherNames f.files n rule.names;
  serials = front_pairs HaveOtherSerials f.files n rule.serials;
  most = omega (arith, length-map (take n f.files) tell, length-take n f.files, rule.most);
  bytes = omega (
    arith,
    size_of_front f.files n,
    sum_by-take-le
        (λ (x : File). length x.bytes) f.files n,
    rule.bytes,
  );
}

-- a listing of one more
pub listed_more : (xs : List File) (i : ℕ) (x : File) → i < length xs → x ≡ get_or xs i x
    → listed (take (i + 1) xs) ≡ listed (take i xs) ++ tell x ∷ []
listed_more xs i x within is =
    ap listed (take_more xs i x within) ∙ map-append tell (take i xs) (get_or xs i x ∷ [])
    ∙ ap (λ (y : File). listed (take i xs) ++ tell y ∷ []) (sym is)
