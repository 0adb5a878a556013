-- The numbers of a thin delivery at their places: in the whole, in the body of the capsule and in
-- its one item.
use Rattle.std.proofs.Common.{◌≡◌, ℕ, ◌+◌, ◌-◌, ◌≤◌, true, List, length, take, drop, sym, ap, ◌∙◌}
use Rattle.std.proofs.Common.{arith}
use Rattle.std.proofs.lemmas.Bool.{and_parts, and_from, eqb-true, eq-eqb, le-leb, leb-true}
use Rattle.std.proofs.lemmas.List.{take_all, length-drop, drop-drop}
use Rattle.cu_base.specs.Fields.{field, number, number_at}
use Rattle.cu_base.specs.declared.limits.TheConstants.{MAX_CAPSULE_BYTES}
use Rattle.fmp_headers.specs.CapsuleHeader.{header_size, image_size}
use Rattle.capsule_grammar.specs.Refusals.{is_fmp_guid, body_of}
use Rattle.reset_play.specs.Thin.{is_thin}

-- ---- what is left behind a place

pub number_behind : (b : List ℕ) (from at size : ℕ)
    → number_at (drop from b) at size ≡ number_at b (from + at) size
number_behind b from at size = ap (λ (l : List ℕ). number (take size l)) (drop-drop at from b)

pub field_behind : (b : List ℕ) (from at size : ℕ)
    → field (drop from b) at size ≡ field b (from + at) size
field_behind b from at size = ap (take size) (drop-drop at from b)

pub field_to_end : (b : List ℕ) (at : ℕ) → field b at (length b - at) ≡ drop at b
field_to_end b at = take_all (length b - at) (drop at b) (omega (arith, length-drop at b))

-- ---- the whole

pub record AreThinNumbers (b : List ℕ) : Type 0 where
  pub guid : is_fmp_guid (field b 0 16) ≡ true
  pub header_size : number_at b 16 4 ≡ 28
  pub size : number_at b 24 4 ≡ length b
  pub fmp_version : number_at b 28 4 ≡ 1
  pub drivers : number_at b 32 2 ≡ 0
  pub images : number_at b 34 2 ≡ 1
  pub offset : number_at b 36 8 ≡ 16
  pub version : number_at b 44 4 ≡ 3
  pub support : number_at b 84 8 ≡ 0
  pub parts : 92 + number_at b 68 4 + number_at b 72 4 ≡ length b
  pub small : length b ≤ MAX_CAPSULE_BYTES

pub numbers_of : (b : List ℕ) → is_thin b ≡ true → AreThinNumbers b
numbers_of b e =
    let image = and_parts _ _ e in
    let body = and_parts _ _ image.0 in
    let header = and_parts _ _ body.0 in
    let h = and_parts _ _ header.1 in
    let g = and_parts _ _ h.0 in
    let f = and_parts _ _ body.1 in
    let i = and_parts _ _ f.0 in
    let d = and_parts _ _ i.0 in
    let p = and_parts _ _ image.1 in
    let v = and_parts _ _ p.0 in
    record {
      guid = g.0;
      header_size = eqb-true _ _ g.1;
      size = eqb-true _ _ h.1;
      fmp_version = eqb-true _ _ d.0;
      drivers = eqb-true _ _ d.1;
      images = eqb-true _ _ i.1;
      offset = eqb-true _ _ f.1;
      version = eqb-true _ _ v.0;
      support = eqb-true _ _ v.1;
      parts = eqb-true _ _ p.1;
      small = leb-true _ _ (and_parts _ _ header.0).1;
    }

pub thin_by : (b : List ℕ) → AreThinNumbers b → is_thin b ≡ true
thin_by b n =
    let long : 92 ≤ length b = omega (arith, n.parts) in
    let header = and_from _ _ (and_from _ _ n.guid (eq-eqb _ _ n.header_size))
    (eq-eqb _ _ n.size) in
    let body =
    and_from _ _ (and_from _ _ (and_from _ _ (eq-eqb _ _ n.fmp_version) (eq-eqb _ _ n.drivers))
    (eq-eqb _ _ n.images)) (eq-eqb _ _ n.offset) in
    let image = and_from _ _ (and_from _ _ (eq-eqb _ _ n.version) (eq-eqb _ _ n.support))
    (eq-eqb _ _ n.parts) in
    let size = and_from _ _ (le-leb _ _ long) (le-leb _ _ n.small) in
    and_from _ _ (and_from _ _ (and_from _ _ size header) body) image

pub body_behind : (b : List ℕ) → header_size b ≡ 28 → image_size b ≡ length b
    → body_of b ≡ drop 28 b
body_behind b head size = ap (λ (n : ℕ). field b n (image_size b - n)) head
    ∙ ap (λ (n : ℕ). field b 28 (n - 28)) size ∙ field_to_end b 28

-- ---- the body and the item

pub record IsThinPlaced (body : List ℕ) : Type 0 where
  pub version : number_at body 0 4 ≡ 1
  pub drivers : number_at body 4 2 ≡ 0
  pub images : number_at body 6 2 ≡ 1
  pub offset : number_at body 8 8 ≡ 16
  pub long : 16 ≤ length body

pub record IsThinItem (item : List ℕ) : Type 0 where
  pub version : number_at item 0 4 ≡ 3
  pub support : number_at item 40 8 ≡ 0
  pub parts : 48 + number_at item 24 4 + number_at item 28 4 ≡ length item

pub body_numbers : (b : List ℕ) → AreThinNumbers b → IsThinPlaced (drop 28 b)
body_numbers b n = record {
  version = number_behind b 28 0 4 ∙ n.fmp_version;
  drivers = number_behind b 28 4 2 ∙ n.drivers;
  images = number_behind b 28 6 2 ∙ n.images;
  offset = number_behind b 28 8 8 ∙ n.offset;
  long = omega (arith, n.parts, length-drop 28 b);
}

pub item_numbers : (b : List ℕ) → AreThinNumbers b → IsThinItem (drop 44 b)
item_numbers b n = record {
  version = number_behind b 44 0 4 ∙ n.version;
  support = number_behind b 44 40 8 ∙ n.support;
  parts = omega (
    arith,
    n.parts,
    length-drop 44 b,
    number_behind b 44 24 4,
    number_behind b 44 28
        4,
  );
}

pub item_behind : (b : List ℕ) → drop 16 (drop 28 b) ≡ drop 44 b
item_behind b = drop-drop 16 28 b

pub numbers_by : (b : List ℕ) → length b ≤ MAX_CAPSULE_BYTES
    → is_fmp_guid (field b 0 16) ≡ true → header_size b ≡ 28 → image_size b ≡ length b
    → IsThinPlaced (drop 28 b) → IsThinItem (drop 44 b) → AreThinNumbers b
numbers_by b small guid head size body item = record {
  small = small;
  guid = guid;
  header_size = head;
  size = size;
  fmp_version = sym (number_behind b 28 0 4) ∙ body.version;
  drivers = sym (number_behind b 28 4 2) ∙ body.drivers;
  images = sym (number_behind b 28 6 2) ∙ body.images;
  offset = sym (number_behind b 28 8 8) ∙ body.offset;
  version = sym (number_behind b 44 0 4) ∙ item.version;
  support = sym (number_behind b 44 40 8) ∙ item.support;
  parts = omega (
    arith,
    item.parts,
    length-drop 44 b,
    number_behind b 44 24 4,
    number_behind b 44 28
        4,
  );
}
