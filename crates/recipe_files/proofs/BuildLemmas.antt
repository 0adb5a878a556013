-- The capsule of a recipe, part by part: how long it is, and that it fits.
use Rattle.std.proofs.Common.{◌≡◌, ℕ, zero, suc, ◌+◌, ◌-◌, ◌*◌, ◌<◌, ◌≤◌, Bool, true, false, ◌&&◌}
use Rattle.std.proofs.Common.{◌||◌, not, cond, List, [], ◌∷◌, ◌++◌, length, get_or, take, drop, map}
use Rattle.std.proofs.Common.{append_assoc, Result, Err, refl, sym, ap, ◌∙◌, arith}
use Rattle.std.specs.Prelude.{◌==◌, nat_lt, is_some}
use Rattle.std.specs.List.{AllByRecursion, concat, list_all}
use Rattle.std.proofs.lemmas.Bool.Decides.{Decides-eqb, Decides-ltb}
use Rattle.std.proofs.lemmas.List.{drop_more, length-append, length-map, map-append, take_more}
use Rattle.std.proofs.lemmas.List.Folds.{concat-append}
use Rattle.fmp_headers.specs.ImageHeader.{image_header_bytes, image_header_size, is_image_version}
use Rattle.fmp_headers.specs.ImageHeader.{keeps_version_rules}
use Rattle.fmp_headers.proofs.Images.{length-layout}
use Rattle.capsule_grammar.specs.Fits.{body_fits, fits, image_fits, is_nonempty}
use Rattle.capsule_grammar.specs.Spelling.{fmp_bytes, image_bytes, item_bytes}
use Rattle.capsule_grammar.specs.Refusals.{is_fmp_guid}
use Rattle.capsule_grammar.proofs.SizeLemmas.{length-fmp_bytes}
use Rattle.cu_base.specs.Fields.{bytes_of}
use Rattle.image_parts.specs.Authentication.{authentication_bytes}
use Rattle.image_parts.specs.Parts.{auth_bytes, dep_bytes}
use Rattle.capsule_grammar.specs.declared.value.Body.{Body}
use Rattle.capsule_grammar.specs.declared.value.Image.{Image}
use Rattle.recipe_files.specs.declared.faults.BuildFault.{BuildFault}
use Rattle.recipe_files.specs.declared.faults.BuildFault.TheVariants.{TooLarge, Memory}
use Rattle.recipe_files.specs.Room.{FitsIn}
use Rattle.recipe_files.specs.Builds.{Contents, auth_of, body_of, capsule_of}
use Rattle.recipe_files.specs.Builds.{certificate_of, drivers_of, filled, fmp_of, header_of}
use Rattle.recipe_files.specs.Builds.{image_of, update_image}
use Rattle.recipe_files.specs.Recipes.{BodyValue, ItemValue, RecipeValue, IsBodyOf, IsItem}
use Rattle.recipe_files.specs.Recipes.{IsRecipe}
use Rattle.recipe_files.specs.Recipes.{other, fmp, keeps_header_rule, keeps_instance_rule}

-- ---- an item

pub update_image_size : (f : Contents) (i : ItemValue)
    → length (update_image f i)
    ≡ length (auth_bytes (auth_of i)) + length (dep_bytes i.dep) + 16 + length (f i.payload)
update_image_size f i = simp length-append (omega arith)

rules_by : (h : ℕ) (auth dep : Bool) (instance : ℕ) → 1 ≤ h → h ≤ 3
    → keeps_header_rule h auth dep ≡ true → keeps_instance_rule h instance ≡ true
    → (is_image_version h && (not (h == 1) || instance == 0)
    && (h == 3 || (cond auth 1 0 + cond dep 2 0) == 1)) ≡ true
rules_by zero auth dep instance low high rule none = absurd (omega arith)
rules_by (suc zero) true true instance low high rule none = absurd cc
rules_by (suc zero) true false instance low high rule none = rw none refl
rules_by (suc zero) false dep instance low high rule none = absurd cc
rules_by (suc (suc zero)) true true instance low high rule none = absurd cc
rules_by (suc (suc zero)) true false instance low high rule none = refl
rules_by (suc (suc zero)) false dep instance low high rule none = absurd cc
rules_by (suc (suc (suc zero))) auth dep instance low high rule none = refl
rules_by (suc (suc (suc (suc n)))) auth dep instance low high rule none = absurd (omega arith)

pub version_rules : (f : Contents) (i : ItemValue) → IsItem i
    → keeps_version_rules (header_of f i) ≡ true
version_rules f i is =
    rules_by i.header i.auth (is_some i.dep) i.instance is.header_low is.header_high is.header_rule
    is.instance_rule

pub image_size : (f : Contents) (i : ItemValue) → IsItem i → length i.type_id.bytes ≡ 16
    → length (image_bytes (image_of f i))
    ≡ image_header_size i.header + length (auth_bytes (auth_of i)) + length (dep_bytes i.dep) + 16
    + length (f i.payload) + length i.vendor
image_size f i is type =
    let h = header_of f i in
    let image = update_image f i in
    let head = length-layout h type refl (version_rules f i is) in
    length-append (image_header_bytes h) (image ++ (i.vendor ++ []))
    ∙ omega (
      arith,
      head,
      length-append image (i.vendor ++ []),
      length-append i.vendor [],
      update_image_size f i,
    )

-- ---- drivers

pub length-drivers_of : (later : ℕ) (ds : List (List ℕ)) → length (drivers_of later ds) ≡ length ds
length-drivers_of later [] = refl
length-drivers_of later (d ∷ ds) = ap suc (length-drivers_of later ds)

nonempty_filled : (d : List ℕ) → is_nonempty (filled d) ≡ true
nonempty_filled [] = refl
nonempty_filled (b ∷ d) = (Decides-ltb 0 (length (b ∷ d))).1 (omega arith)

-- each driver before the last item has a byte
all_filled : (later : ℕ) (ds : List (List ℕ)) (k : ℕ) → length ds + later ≡ suc k
    → list_all is_nonempty (take k (drivers_of later ds)) ≡ true
all_filled later [] zero same = refl
all_filled later [] (suc k) same = refl
all_filled later (d ∷ ds) zero same = refl
all_filled later (d ∷ ds) (suc k) same =
    let rest : length ds + later ≡ suc k = omega arith in
    let more : nat_lt 0 (length ds + later) ≡ true = (Decides-ltb 0 _).1 (omega arith) in
    rw (more, nonempty_filled d) (all_filled later ds k rest)

-- ---- the body

pub fmp_size : (f : Contents) (drivers : List (List ℕ)) (items : List ItemValue)
    → length (fmp_bytes (fmp_of f drivers items))
    ≡ 8 + 8 * (length drivers + length items)
    + length (concat (drivers_of (length items) (map f drivers)))
    + length (concat (map image_bytes (map (image_of f) items)))
fmp_size f drivers items =
    let ds = drivers_of (length items) (map f drivers) in
    let is = map image_bytes (map (image_of f) items) in
    let v = fmp_of f drivers items in
    let n : length (item_bytes v) ≡ length drivers + length items =
    length-append ds is
    ∙ omega (
      arith,
      length-drivers_of (length items) (map f drivers),
      length-map drivers f,
      length-map (map (image_of f) items) image_bytes,
      length-map items (image_of f),
    ) in
    let all : length (concat (item_bytes v)) ≡ length (concat ds) + length (concat is) =
    ap length (concat-append ds is) ∙ length-append (concat ds) (concat is) in
    length-fmp_bytes v ∙ omega (arith, n, all)

image_fits_of : (f : Contents) (i : ItemValue) → IsItem i → image_fits (image_of f i) ≡ true
image_fits_of f i is =
    let image : (length (update_image f i) == length (update_image f i)) ≡ true =
    (Decides-eqb _ _).1 refl in
    let vendor : (length i.vendor == length i.vendor) ≡ true = (Decides-eqb _ _).1 refl in
    rw (image, vendor) (version_rules f i is)

images_fit : (f : Contents) (items : List ItemValue) → AllByRecursion IsItem items
    → list_all image_fits (map (image_of f) items) ≡ true
images_fit f [] each = refl
images_fit f (i ∷ items) each = rw (image_fits_of f i each.0) (images_fit f items each.1)

before_last : (f : Contents) (drivers : List (List ℕ)) (items : List ItemValue) (k : ℕ)
    → length drivers + length items ≡ k
    → list_all is_nonempty
    (take (k - 1) (drivers_of (length items) (map f drivers))) ≡ true
before_last f drivers items zero same = refl
before_last f drivers items (suc k) same =
    let low : suc k - 1 ≡ k = omega arith in
    rw low (all_filled (length items) (map f drivers) k (omega (arith, length-map drivers f)))

four_true : (a b c d : Bool) → a ≡ true → b ≡ true → c ≡ true → d ≡ true → (a && b && c && d) ≡ true
four_true a b c d p q r s = rw (p, q, r, s) refl

body_fits_of : (f : Contents) (is_fmp : Bool) (b : BodyValue) → IsBodyOf is_fmp b
    → body_fits is_fmp (body_of f b) ≡ true
body_fits_of f true (other name) is = absurd is
body_fits_of f false (fmp drivers items) is = absurd is
body_fits_of f false (other name) is = refl
body_fits_of f true (fmp drivers items) is =
    let ds = drivers_of (length items) (map f drivers) in
    let images = map (image_of f) items in
    let n = length-drivers_of (length items) (map f drivers) ∙ length-map drivers f in
    let m = length-map items (image_of f) in
    four_true _ _ _ _
    ((Decides-ltb (length ds) 65536).1 (omega (arith, n, is.few_drivers)))
    ((Decides-ltb (length images) 65536).1 (omega (arith, m, is.few_items)))
    (ap (λ (k : ℕ). list_all is_nonempty (take (k - 1) ds))
    (omega (arith, n, m)) ∙ before_last f drivers items (length drivers + length items) refl)
    (images_fit f items is.each)

pub fits_of : (f : Contents) (r : RecipeValue) → IsRecipe r → fits (capsule_of f r) ≡ true
fits_of f r is = body_fits_of f (is_fmp_guid r.guid.bytes) r.body is

-- ---- lists that go on

pub drivers_next : (f : Contents) (later : ℕ) (names : List (List ℕ)) (k behind : ℕ)
    (name : List ℕ) → k < length names → name ≡ get_or names k name
    → behind ≡ length (drop (k + 1) names) + later
    → drivers_of later (map f (drop k names))
    ≡ cond (nat_lt 0 behind) (filled (f name)) (f name)
    ∷ drivers_of later (map f (drop (k + 1) names))
drivers_next f later names k behind name within is same =
    let cell : drop k names ≡ name ∷ drop (k + 1) names = drop_more names k name within
    ∙ ap (λ (n : List ℕ). n ∷ drop (k + 1) names) (sym is) in
    let size : length (map f (drop (k + 1) names)) + later ≡ behind =
    ap (λ (n : ℕ). n + later) (length-map (drop (k + 1) names) f) ∙ sym same in
    rw (cell, size) refl

pub driver_room : (f : Contents) (later : ℕ) (names : List (List ℕ)) (k behind : ℕ)
    (name : List ℕ) → k < length names → name ≡ get_or names k name
    → behind ≡ length (drop (k + 1) names) + later
    → length (concat (drivers_of later (map f (drop k names))))
    ≡ length (cond (nat_lt 0 behind) (filled (f name)) (f name))
    + length (concat (drivers_of later (map f (drop (k + 1) names))))
driver_room f later names k behind name within is same =
    ap (λ (l : List (List ℕ)). length (concat l))
    (drivers_next f later names k behind name within is same)
    ∙ length-append (cond (nat_lt 0 behind) (filled (f name)) (f name))
    (concat (drivers_of later (map f (drop (k + 1) names))))

-- the bytes of the image items of items
abbrev pub images_bytes : Contents → List ItemValue → List ℕ
images_bytes f items = concat (map image_bytes (map (image_of f) items))

pub item_room : (f : Contents) (items : List ItemValue) (k : ℕ) (i : ItemValue) → k < length items
    → i ≡ get_or items k i
    → length (images_bytes f (drop k items))
    ≡ length (image_bytes (image_of f i)) + length (images_bytes f (drop (k + 1) items))
item_room f items k i within is =
    let cell : drop k items ≡ i ∷ drop (k + 1) items = drop_more items k i within
    ∙ ap (λ (n : ItemValue). n ∷ drop (k + 1) items) (sym is) in
    ap (λ (l : List ItemValue). length (images_bytes f l)) cell
    ∙ length-append (image_bytes (image_of f i)) (images_bytes f (drop (k + 1) items))

pub length-image : (f : Contents) (i : ItemValue)
    → length (image_bytes (image_of f i))
    ≡ length (image_header_bytes (header_of f i)) + length (update_image f i) + length i.vendor
length-image f i =
    let h = header_of f i in
    let image = update_image f i in
    length-append (image_header_bytes h) (image ++ (i.vendor ++ []))
    ∙ omega (arith, length-append image (i.vendor ++ []), length-append i.vendor [])

pub image_is_within : (f : Contents) (i : ItemValue) (most : ℕ)
    → length (image_bytes (image_of f i)) ≤ most → length (update_image f i) ≤ most
image_is_within f i most within = omega (arith, length-image f i)

pub vendor_is_within : (f : Contents) (i : ItemValue) (most : ℕ)
    → length (image_bytes (image_of f i)) ≤ most → length i.vendor ≤ most
vendor_is_within f i most within = omega (arith, length-image f i)

pub auth_is_within : (f : Contents) (i : ItemValue) (most : ℕ)
    → length (update_image f i) ≤ most → length (auth_bytes (auth_of i)) ≤ most
auth_is_within f i most within = omega (arith, update_image_size f i)

not_all : (fault : BuildFault) (left here room all rest : ℕ) → FitsIn left here (Err fault)
    → left + all ≡ room + (here + rest) → FitsIn room all (Err fault)
not_all TooLarge left here room all rest not same = omega arith
not_all Memory left here room all rest not same = absurd not

-- where the next part does not fit, all do not
pub fits_not : (result : Result ℕ BuildFault) (fault : BuildFault) (left here room all rest : ℕ)
    → result ≡ Err fault → FitsIn left here (Err fault) → left + all ≡ room + (here + rest)
    → FitsIn room all result
fits_not result fault left here room all rest is not same =
    rw is (not_all fault left here room all rest not same)

pub images_more : (f : Contents) (items : List ItemValue) (k : ℕ) (i : ItemValue)
    (old new : List Image) (image : Image) → k < length items → i ≡ get_or items k i
    → image ≡ image_of f i → old ≡ map (image_of f) (take k items) → new ≡ old ++ image ∷ []
    → new ≡ map (image_of f) (take (k + 1) items)
images_more f items k i old new image within is made so_far more =
    let cell : take (k + 1) items ≡ take k items ++ i ∷ [] = take_more items k i within
    ∙ ap (λ (n : ItemValue). take k items ++ n ∷ []) (sym is) in
    more
    ∙ ap (λ (l : List Image). l ++ image ∷ []) so_far
    ∙ ap (λ (x : Image). map (image_of f) (take k items) ++ x ∷ []) made
    ∙ sym (ap (map (image_of f)) cell ∙ map-append (image_of f) (take k items) (i ∷ []))

pub body_made : (f : Contents) (r seen : RecipeValue) (body : Body) → seen ≡ r → IsRecipe seen
    → body ≡ body_of f r.body → body_fits (is_fmp_guid seen.guid.bytes) body ≡ true
body_made f r seen body same is made =
    ap (λ (b : Body). body_fits (is_fmp_guid seen.guid.bytes) b)
    (made ∙ ap (λ (x : RecipeValue). body_of f x.body) (sym same))
    ∙ fits_of f seen is

six_lengths : (a b c d e f : List ℕ)
    → length (a ++ b ++ c ++ d ++ e ++ f)
    ≡ length a + length b + length c + length d + length e + length f
six_lengths a b c d e f = simp length-append (omega arith)

-- where the authentication data is there, its certificate is shorter than it
pub cert_is_within : (i : ItemValue) (most : ℕ) → i.auth ≡ true
    → length i.cert_type.bytes ≡ 16 → length (auth_bytes (auth_of i)) ≤ most
    → 24 + length i.cert ≤ most
cert_is_within i most auth type within =
    let all : length (auth_bytes (auth_of i)) ≡ length (authentication_bytes (certificate_of i)) =
    rw auth refl in
    let parts = six_lengths (bytes_of 8 i.monotonic) (bytes_of 4 (24 + length i.cert))
    (bytes_of 2 0x0200) (bytes_of 2 0x0EF1) i.cert_type.bytes i.cert in
    omega (arith, all, parts, type)

-- what is appended part by part
pub six_grown : (old o p q r s new a b c d e f : List ℕ) → o ≡ old ++ a → p ≡ o ++ b → q ≡ p ++ c
    → r ≡ q ++ d → s ≡ r ++ e → new ≡ s ++ f → new ≡ old ++ (a ++ b ++ c ++ d ++ e ++ f)
six_grown old o p q r s new a b c d e f eo ep eq er es en =
    en ∙ rw (es, er, eq, ep, eo) (simp append_assoc)

pub four_grown : (old o p q new a b c d : List ℕ) → o ≡ old ++ a → p ≡ o ++ b → q ≡ p ++ c
    → new ≡ q ++ d → new ≡ old ++ (a ++ b ++ c ++ d)
four_grown old o p q new a b c d eo ep eq en = en ∙ rw (eq, ep, eo) (simp append_assoc)
