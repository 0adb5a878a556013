-- Devices with one more at the end.
use Rattle.std.proofs.Common.{◌≡◌, ℕ, ◌<◌, Bool, true, false, ◌&&◌, nat_eq, List, [], ◌∷◌, ◌++◌}
use Rattle.std.proofs.Common.{length, get_or, ap, sym, ◌∙◌}
use Rattle.std.specs.List.{list_any}
use Rattle.std.specs.Str.{bytes_eq}
use Rattle.std.proofs.lemmas.Bool.{false≢true}
use Rattle.std.proofs.lemmas.Bool.Decides.{Decides-eqb}
use Rattle.std.proofs.lemmas.List.Elements.{All-push}
use Rattle.std.proofs.lemmas.List.Folds.{list_any_at}
use Rattle.std.proofs.lemmas.List.Quantifiers.{all_pairs_push}
use Rattle.std.proofs.lemmas.Slice.Eq.{bytes_eq-Decides}
use Rattle.cu_base.specs.declared.guid.Guid.{Guid}
use Rattle.bench_model.specs.Devices.{DeviceValue, IsDevice, AreDevices, HaveOtherNames}
use Rattle.bench_model.specs.Devices.{HaveOtherTriples, triple_of, has_name, has_triple}

-- a test that no element passes keeps each from what would pass it
apart : (p : DeviceValue → Bool) (Same : DeviceValue → Type 0) (ds : List DeviceValue)
    → ((d : DeviceValue) → Same d → p d ≡ true) → list_any p ds ≡ false
    → (k : ℕ) (e : DeviceValue) → k < length ds → Same (get_or ds k e) → ⊥
apart p Same ds passes none k e within same =
    false≢true (sym none ∙ list_any_at p ds k e within (passes (get_or ds k e) same))

three_true : (a b c : Bool) → a ≡ true → b ≡ true → c ≡ true → (a && b && c) ≡ true
three_true a b c p q r = rw (p, q, r)

same_triple_passes : (a b : DeviceValue) → triple_of a ≡ triple_of b
    → (bytes_eq a.type_id.bytes b.type_id.bytes && nat_eq a.index b.index
    && nat_eq a.instance b.instance) ≡ true
same_triple_passes a b same =
    three_true _ _ _
    ((bytes_eq-Decides _ _).1 (ap (λ (t : Guid × ℕ × ℕ). t.0.bytes) same))
    ((Decides-eqb _ _).1 (ap (λ (t : Guid × ℕ × ℕ). t.1) same))
    ((Decides-eqb _ _).1 (ap (λ (t : Guid × ℕ × ℕ). t.2) same))

pub AreDevices-push : (ds : List DeviceValue) (d : DeviceValue) → AreDevices ds → IsDevice d
    → has_name d.name ds ≡ false → has_triple d.type_id d.index d.instance ds ≡ false
    → AreDevices (ds ++ d ∷ [])
AreDevices-push ds d old new name triple = record {
  each = All-push IsDevice ds d old.each new;
  names = all_pairs_push HaveOtherNames ds d old.names
      (apart (λ e. bytes_eq e.name d.name) (λ e. e.name ≡ d.name) ds
      (λ e same. (bytes_eq-Decides _ _).1 same) name);
  triples = all_pairs_push HaveOtherTriples ds d old.triples
      (apart (λ e. bytes_eq e.type_id.bytes d.type_id.bytes && nat_eq e.index d.index
      && nat_eq e.instance d.instance)
      (λ e. triple_of e ≡ triple_of d) ds (λ e same. same_triple_passes e d same) triple);
}
