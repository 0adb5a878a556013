-- What the keys of a table of an item say together.
use Rattle.std.proofs.Common.{◌≡◌, ℕ, ◌≤◌, true, List, length, map, Option, None, Some, IfSome}
use Rattle.std.proofs.Common.{IsTrue, refl, sym, ap, ◌∙◌}
use Rattle.std.specs.List.{AllByRecursion, list_all}
use Rattle.std.proofs.lemmas.List.{length-map}
use Rattle.std.specs.Option.{is_some, option_map}
use Rattle.toml.specs.Data.{Data, Members, get_member}
use Rattle.image_parts.specs.Section.{IsOneSection}
use Rattle.recipe_files.specs.declared.items.Firmware.{Firmware}
use Rattle.recipe_files.specs.declared.items.Signing.{Signing}
use Rattle.recipe_files.specs.declared.items.Target.{Target}
use Rattle.recipe_files.specs.declared.keys.Key.TheVariants.{Dep, Drivers, Item, Vendor}
use Rattle.recipe_files.specs.declared.limits.TheConstants.{MAX_DRIVERS, MAX_ITEMS}
use Rattle.recipe_files.specs.InputNames.{is_input_name}
use Rattle.recipe_files.specs.Keys.{key_name}
use Rattle.recipe_files.specs.RecipeItems.{IsFirmware, IsSigning, IsTarget, item_in, item_of}
use Rattle.recipe_files.specs.RecipeItems.{item_test}
use Rattle.recipe_files.specs.RecipeTexts.{body_in, body_test, drivers_test, items_test}
use Rattle.recipe_files.specs.Recipes.{AreFmpParts, IsItem, ItemValue, fmp, item}
use Rattle.recipe_files.specs.Tests.{key_test}
use Rattle.recipe_files.specs.Values.{bytes_in, bytes_or_none, entries_in, has_key, hex_of}
use Rattle.recipe_files.specs.Values.{text_of}
use Rattle.recipe_files.proofs.RecipeFaults.{fmp_test_is, item_test_is}

-- the item of what was read
abbrev pub read : Target → Firmware → List ℕ → Signing → Option (List ℕ) → ItemValue
read t f vendor s dep =
    item t.header t.type_id t.index t.instance f.auth f.fw_version f.lowest f.payload vendor
    s.monotonic s.cert_type s.cert dep

there : (found : Option Data) → is_some (option_map hex_of found) ≡ is_some found
there None = refl
there (Some d) = refl

has_dep : (table : Members) (dep : Option (List ℕ)) → bytes_or_none Dep table ≡ dep
    → has_key Dep table ≡ is_some dep
unfolding bytes_or_none
has_dep table dep is =
    sym (there (get_member (key_name Dep) table)) ∙ ap (λ (o : Option (List ℕ)). is_some o) is

pub read_keeps : (table : Members) (t : Target) (f : Firmware) (vendor : List ℕ) (s : Signing)
    (dep : Option (List ℕ)) → IsTarget table t → IsFirmware table f → IsSigning table s
    → bytes_or_none Dep table ≡ dep → IfSome dep IsOneSection → IsItem (read t f vendor s dep)
read_keeps table t f vendor s dep target firmware signing is section = record {
  header_low = target.header_low;
  header_high = target.header_high;
  header_rule = rw (← firmware.auth, ← has_dep table dep is) target.header_rule;
  instance = target.instance_high;
  instance_rule = target.instance_rule;
  payload = firmware.named;
  monotonic = signing.low;
  dep = section;
}

pub read_is : (table : Members) (t : Target) (f : Firmware) (vendor : List ℕ) (s : Signing)
    (dep : Option (List ℕ)) → IsTarget table t → IsFirmware table f → bytes_in Vendor table ≡ vendor
    → IsSigning table s → bytes_or_none Dep table ≡ dep → read t f vendor s dep ≡ item_in table
unfolding item_in
read_is table t f vendor s dep target firmware code signing is =
    rw (
      target.header,
      target.type_id,
      target.index,
      target.instance,
      firmware.auth,
      firmware.fw_version,
      firmware.lowest,
      firmware.payload,
      code,
      signing.monotonic,
      signing.cert_type,
      signing.cert,
      is,
    ) refl

pub none_in_item : (table : Members) (t : Target) (f : Firmware) (s : Signing) → IsTarget table t
    → IsFirmware table f → key_test Vendor table ≡ None → IsSigning table s
    → key_test Dep table ≡ None → item_test table ≡ None
none_in_item table t f s target firmware code signing dep =
    item_test_is table
    ∙ rw (target.passes, firmware.passes, code, signing.passes, dep) refl

pub fmp_read : (table : Members) (drivers : List (List ℕ)) (items : List ItemValue)
    (ds es : List Data) → key_test Drivers table ≡ None → entries_in Drivers table ≡ ds
    → length ds ≤ MAX_DRIVERS → drivers_test ds ≡ None → drivers ≡ map text_of ds
    → IsTrue (list_all is_input_name drivers) → key_test Item table ≡ None
    → entries_in Item table ≡ es → length es ≤ MAX_ITEMS → items_test es ≡ None
    → items ≡ map item_of es → AllByRecursion IsItem items
    → (body_test true table ≡ None)
    × ((fmp drivers items ≡ body_in true table) × AreFmpParts drivers items)
fmp_read table drivers items ds es d_key d_is d_few d_test d_read names i_key i_is i_few i_test
    i_read
    each = (
      fmp_test_is table ∙ rw (d_key, d_is, d_test, i_key, i_is, i_test) refl,
      (
        rw (d_read, i_read, d_is, i_is) refl,
        record {
          few_drivers = rw (d_read, length-map ds text_of) d_few;
          few_items = rw (i_read, length-map es item_of) i_few;
          names = names;
          each = each;
        },
      ),
    )
