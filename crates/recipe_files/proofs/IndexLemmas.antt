-- Look-ups in an index of inputs.
use Rattle.std.proofs.Common.{◌≡◌, ℕ, ◌+◌, ◌<◌, Bool, true, false, cond, List, [], ◌∷◌, length}
use Rattle.std.proofs.Common.{get_or, drop, Option, Some, refl, sym, ap, ◌∙◌}
use Rattle.std.specs.Option.{option_map, unwrap_or}
use Rattle.std.specs.Str.{bytes_eq}
use Rattle.std.specs.HashMap.{HashMap, UpdatesBy}
use Rattle.std.proofs.lemmas.List.{drop_more}
use Rattle.std.proofs.lemmas.Map.Text.{hash_map_updates_str}
use denote.Ref.{Bor}
use Rattle.cu_io.specs.Named.{Named, bytes_named}
use Rattle.recipe_files.specs.Builds.{contents_of}
use Rattle.recipe_files.specs.Room.{AddsPair, found, found_in}

-- an index finds what these pairs name
abbrev pub Finds : {S : Type 0} → HashMap (Bor (List ℕ)) (Bor (List ℕ)) S → Named → Type 0
Finds index pairs = (name : List ℕ) → found_in index name ≡ bytes_named pairs name

one_more : (b : Bool) (bytes : Bor (List ℕ)) (before : Option (Bor (List ℕ)))
    (rest : Option (List ℕ))
    → option_map (λ bytes. bytes.now) before ≡ rest
    → option_map (λ bytes. bytes.now) (cond b (Some bytes) before) ≡ cond b (Some bytes.now) rest
one_more true bytes before rest is = refl
one_more false bytes before rest is = is

pub adds : {S : Type 0} (old new : HashMap (Bor (List ℕ)) (Bor (List ℕ)) S)
    (pair : List ℕ × List ℕ) (name bytes : Bor (List ℕ)) → name.now ≡ pair.0 → bytes.now ≡ pair.1
    → UpdatesBy (λ x y. bytes_eq x.now y.now) (λ k. bytes_eq name.now k.now) old new (Some bytes)
    → AddsPair old pair new
adds old new pair name bytes named held updates cs =
    ap (option_map (λ bytes. bytes.now))
    (hash_map_updates_str name.now old new (Some bytes) updates cs)
    ∙ one_more (bytes_eq name.now cs) bytes _ _ refl
    ∙ ap (λ (n : List ℕ). cond (bytes_eq n cs) (Some bytes.now) (found_in old cs)) named
    ∙ ap (λ (b : List ℕ). cond (bytes_eq pair.0 cs) (Some b) (found_in old cs)) held

pub finds_more : {S : Type 0} (old new : HashMap (Bor (List ℕ)) (Bor (List ℕ)) S)
    (pairs items : Named) (k next : ℕ) (pair : List ℕ × List ℕ) → pairs ≡ items → k < length items
    → next ≡ k + 1 → pair ≡ get_or pairs k pair → AddsPair old pair new
    → Finds old (drop next items) → Finds new (drop k items)
finds_more old new pairs items k next pair same within is_next is adds rest cs =
    let cell : drop k items ≡ pair ∷ drop (k + 1) items = drop_more items k pair within
    ∙ ap (λ (p : List ℕ × List ℕ). p ∷ drop (k + 1) items)
    (sym (is ∙ ap (λ (ps : Named). get_or ps k pair) same)) in
    adds cs
    ∙ ap (λ (o : Option (List ℕ)). cond (bytes_eq pair.0 cs) (Some pair.1) o)
    (rest cs ∙ ap (λ (n : ℕ). bytes_named (drop n items) cs) is_next)
    ∙ ap (λ (ps : Named). bytes_named ps cs) (sym cell)

pub finds_all : {S : Type 0} (index : HashMap (Bor (List ℕ)) (Bor (List ℕ)) S) (items : Named)
    (k : ℕ) → k ≡ 0 → Finds index (drop k items) → found index ≡ contents_of items
unfolding found
finds_all index items k none finds = λ i name.
    unwrap_or ((finds name ∙ ap (λ (n : ℕ). bytes_named (drop n items) name) none) i) []
