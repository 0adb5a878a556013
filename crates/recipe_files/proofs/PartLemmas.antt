-- The update image of an item is its parts.
use Rattle.std.proofs.Common.{◌≡◌, ◌+◌, Bool, true, false, cond}
use Rattle.std.proofs.Common.{None, Some}
use Rattle.std.proofs.Common.{IfSome, refl, ◌∙◌, arith}
use Rattle.std.specs.Prelude.{is_some}
use Rattle.image_parts.specs.Authentication.{IsAuthentication}
use Rattle.image_parts.specs.Parts.{IsPartsOf}
use Rattle.image_parts.specs.Support.{has_authentication, has_section}
use Rattle.image_parts.specs.Values.{AuthValue}
use Rattle.recipe_files.specs.Builds.{Contents, HasWidths, certificate_of, parts_of, support_of}
use Rattle.recipe_files.specs.Builds.{update_image}
use Rattle.recipe_files.specs.Recipes.{IsItem, ItemValue}

some_if : (b : Bool) (a : AuthValue) → is_some (cond b (Some a) None) ≡ b
some_if true a = refl
some_if false a = refl

told_auth : (auth dep : Bool) → auth ≡ has_authentication (cond auth 1 0 + cond dep 2 0)
told_auth true true = refl
told_auth true false = refl
told_auth false true = refl
told_auth false false = refl

told_section : (auth dep : Bool) → dep ≡ has_section (cond auth 1 0 + cond dep 2 0)
told_section true true = refl
told_section true false = refl
told_section false true = refl
told_section false false = refl

form_if : (b : Bool) (a : AuthValue) → IsAuthentication a
    → IfSome (cond b (Some a) None) IsAuthentication
form_if true a is = is
form_if false a is = tt

pub parts_are : (f : Contents) (i : ItemValue) → IsItem i → HasWidths i
    → IsPartsOf (update_image f i) (support_of i) (parts_of f i)
parts_are f i is has = record {
  whole = refl;
  auth = some_if i.auth (certificate_of i) ∙ told_auth i.auth (is_some i.dep);
  authentication = form_if i.auth (certificate_of i)
      (record {
        monotonic = omega (arith, is.monotonic);
        cert_type = has.cert_type;
        cert = has.cert;
      });
  dep = told_section i.auth (is_some i.dep);
  section = is.dep;
  head = record {
    header_size = refl;
    width = omega arith;
    version = has.fw_version;
    lowest = has.lowest;
  };
}
