-- How the names of a recipe are gathered.
use Rattle.std.proofs.Common.{◌≡◌, ℕ, ◌+◌, ◌<◌, Bool, true, false, cond, List, [], ◌∷◌, ◌++◌}
use Rattle.std.proofs.Common.{length, get_or, take, map, refl, sym, ap, ◌∙◌, append_assoc}
use Rattle.std.proofs.lemmas.List.{append-nil, map-append, take_more}
use Rattle.std.specs.List.{AllByRecursion, IsDistinct, list_any}
use Rattle.std.specs.Str.{bytes_eq}
use Rattle.indexmap.specs.IndexSet.{insert_key}
use denote.Ref.{Bor}
use Rattle.recipe_files.specs.Mentions.{first_mentions, is_among, payload_name}
use Rattle.recipe_files.specs.Recipes.{ItemValue}
use Rattle.recipe_files.specs.Seen.{Sees, bytes_of_name}

any_seen : (name : List ℕ) (names : List (Bor (List ℕ)))
    → list_any (λ k. bytes_eq name k.now) names ≡ is_among (map bytes_of_name names) name
any_seen name [] = refl
any_seen name (k ∷ names) = rw (any_seen name names) refl

map_pushed : (names : List (Bor (List ℕ))) (name : Bor (List ℕ))
    → map bytes_of_name (names ++ name ∷ []) ≡ map bytes_of_name names ++ name.now ∷ []
map_pushed [] name = refl
map_pushed (k ∷ names) name = ap (λ (l : List (List ℕ)). k.now ∷ l) (map_pushed names name)

one_seen : (b : Bool) (names : List (Bor (List ℕ))) (name : Bor (List ℕ))
    → is_among (map bytes_of_name names) name.now ≡ b
    → map bytes_of_name (cond b names (names ++ name ∷ []))
    ≡ map bytes_of_name names ++ first_mentions (map bytes_of_name names) (name.now ∷ [])
one_seen true names name is = rw is (sym (append-nil (map bytes_of_name names)))
one_seen false names name is = rw is (map_pushed names name)

pub sees_one : (old new : List (Bor (List ℕ))) (name : Bor (List ℕ))
    → new ≡ insert_key (λ x y. bytes_eq x.now y.now) old name
    → Sees (map bytes_of_name old) (name.now ∷ []) (map bytes_of_name new)
sees_one old new name is =
    ap (map bytes_of_name) is
    ∙ ap (λ (b : Bool). map bytes_of_name (cond b old (old ++ name ∷ []))) (any_seen name.now old)
    ∙ one_seen (is_among (map bytes_of_name old) name.now) old name refl

mentions_step : (b : Bool) (earlier names more : List (List ℕ)) (name : List ℕ)
    → is_among earlier name ≡ b
    → ((before : List (List ℕ)) → first_mentions before (names ++ more)
    ≡ first_mentions before names ++ first_mentions (before ++ first_mentions before names) more)
    → first_mentions earlier (name ∷ names ++ more) ≡ first_mentions earlier (name ∷ names)
    ++ first_mentions (earlier ++ first_mentions earlier (name ∷ names)) more
mentions_step true earlier names more name is rest = rw is (rest earlier)
mentions_step false earlier names more name is rest =
    rw is (ap (λ (l : List (List ℕ)). name ∷ l)
    (rest (earlier ++ name ∷ [])
    ∙ ap
    (λ (l : List (List ℕ)). first_mentions (earlier ++ name ∷ []) names ++ first_mentions l more)
    (append_assoc earlier (name ∷ []) (first_mentions (earlier ++ name ∷ []) names))))

mentions_append : (names more earlier : List (List ℕ)) → first_mentions earlier (names ++ more)
    ≡ first_mentions earlier names ++ first_mentions (earlier ++ first_mentions earlier names) more
mentions_append [] more earlier =
    ap (λ (l : List (List ℕ)). first_mentions l more) (sym (append-nil earlier))
mentions_append (name ∷ names) more earlier =
    mentions_step (is_among earlier name) earlier names more name refl
    (λ before. mentions_append names more before)

pub sees_both : (a b c xs ys : List (List ℕ)) → Sees a xs b → Sees b ys c → Sees a (xs ++ ys) c
sees_both a b c xs ys first second =
    second
    ∙ ap (λ (l : List (List ℕ)). l ++ first_mentions l ys) first
    ∙ append_assoc a (first_mentions a xs) (first_mentions (a ++ first_mentions a xs) ys)
    ∙ ap (λ (l : List (List ℕ)). a ++ l) (sym (mentions_append xs ys a))

pub sees_none : (a b : List (List ℕ)) → b ≡ a → Sees a [] b
sees_none a b is = is ∙ sym (append-nil a)

pub sees_more : (a b c names : List (List ℕ)) (i : ℕ) (name text : List ℕ) → i < length names
    → name ≡ get_or names i name → text ≡ name → Sees a (take i names) b → Sees b (text ∷ []) c
    → Sees a (take (i + 1) names) c
sees_more a b c names i name text within is same so_far here =
    let cell : take (i + 1) names ≡ take i names ++ text ∷ [] = take_more names i name within
    ∙ ap (λ (n : List ℕ). take i names ++ n ∷ []) (sym is ∙ sym same) in
    rw cell (sees_both a b c (take i names) (text ∷ []) so_far here)

pub sees_item : (a b c : List (List ℕ)) (items : List ItemValue) (k : ℕ) (i : ItemValue)
    (text : List ℕ) → k < length items → i ≡ get_or items k i → text ≡ payload_name i
    → Sees a (map payload_name (take k items)) b → Sees b (text ∷ []) c
    → Sees a (map payload_name (take (k + 1) items)) c
sees_item a b c items k i text within is same so_far here =
    let cell : take (k + 1) items ≡ take k items ++ i ∷ [] = take_more items k i within
    ∙ ap (λ (n : ItemValue). take k items ++ n ∷ []) (sym is) in
    let names : map payload_name (take (k + 1) items)
    ≡ map payload_name (take k items) ++ text ∷ [] =
    ap (map payload_name) cell ∙ map-append payload_name (take k items) (i ∷ [])
    ∙ ap (λ (n : List ℕ). map payload_name (take k items) ++ n ∷ []) (sym same) in
    rw names (sees_both a b c (map payload_name (take k items)) (text ∷ []) so_far here)

pub inputs_are : (old new mentions : List (List ℕ)) → old ≡ [] → Sees old mentions new
    → new ≡ first_mentions [] mentions
inputs_are old new mentions none sees =
    sees ∙ ap (λ (l : List (List ℕ)). l ++ first_mentions l mentions) none

apart_seen : (name : Bor (List ℕ)) (names : List (Bor (List ℕ)))
    → AllByRecursion (λ y. bytes_eq name.now y.now ≡ false) names
    → AllByRecursion (λ y. bytes_eq name.now y ≡ false) (map bytes_of_name names)
apart_seen name [] each = tt
apart_seen name (k ∷ names) each = (each.0, apart_seen name names each.1)

pub distinct_seen : (names : List (Bor (List ℕ))) → IsDistinct (λ x y. bytes_eq x.now y.now) names
    → IsDistinct bytes_eq (map bytes_of_name names)
unfolding IsDistinct
distinct_seen [] is = tt
distinct_seen (k ∷ names) is = (apart_seen k names is.0, distinct_seen names is.1)
