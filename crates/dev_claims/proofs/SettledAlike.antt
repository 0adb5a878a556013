-- A settlement reads of an element what its claim and its device tell.
use Rattle.std.proofs.Common.{◌≡◌, ℕ, List, [], ◌∷◌, ◌++◌, refl, sym, ap, ◌∙◌, Option, Some}
use Rattle.bench_model.specs.Boards.{BoardValue}
use Rattle.cu_base.specs.declared.guid.Guid.{Guid}
use Rattle.cu_base.specs.declared.time.EfiTime.{EfiTime}
use Rattle.dev_claims.specs.Claimed.{element_claimed, index_of, type_of}
use Rattle.dev_claims.specs.Ended.{claim_settled}
use Rattle.dev_claims.specs.Units.{device_changes, greatest_changes, next_result, progress_changes}
use Rattle.dev_claims.specs.Units.{result_changes, settle_changes}
use Rattle.fmp_headers.specs.declared.guids.TheConstants.{FMP_CAPSULE_GUID}
use Rattle.reference_machine.specs.Results.{fmp_part, status_with}
use Rattle.reference_machine.specs.Spent.{Element}
use Rattle.reference_machine.specs.Spent.Standing.{Open}
use Rattle.reference_machine.specs.declared.unit.End.{End}
use Rattle.reference_machine.specs.declared.unit.Kind.{Kind}
use Rattle.reference_machine.specs.declared.unit.Kind.TheVariants.{Try, Heal, Skip, NoTarget, Bad}
use Rattle.reference_machine.specs.declared.unit.UnitKey.{UnitKey}
use Rattle.report_tables.specs.declared.result.FmpResult.{FmpResult}
use Rattle.stored_vars.specs.Edits.{set_of}
use Rattle.stored_vars.specs.Holds.{bytes_in}
use Rattle.stored_vars.specs.Last.{last_bytes}
use Rattle.stored_vars.specs.Stands.{claim_for}
use Rattle.stored_vars.specs.declared.variable.StoredVar.TheVariants.{CapsuleLast, CapsuleMax}
use Rattle.var_log.specs.Changes.{Variables}
use Rattle.var_log.specs.declared.change.Change.{Change}

-- two elements agree in what a settlement reads of them
pub record AreAlike (a b : Element) : Type 0 where
  pub kind : a.kind ≡ b.kind
  pub key : a.key ≡ b.key
  pub capsule : a.capsule ≡ b.capsule
  pub type_id : a.head.type_id ≡ b.head.type_id
  pub index : a.head.index ≡ b.head.index
  pub version : a.version ≡ b.version
  pub floor : a.floor ≡ b.floor

-- an element of these alone
abbrev plain : Kind → UnitKey → Guid → Guid → ℕ → ℕ → ℕ → Element
plain kind key capsule type_id index version floor = record {
  kind = kind;
  key = key;
  capsule = capsule;
  head = record { version = 0; type_id = type_id; index = index; instance = 0; support = 0 };
  version = version;
  floor = floor;
  dependency = [];
  payload = [];
  standing = Open;
}

abbrev plain_of : Element → Element
plain_of e = plain e.kind e.key e.capsule e.head.type_id e.head.index e.version e.floor

same_part : (board : BoardValue) (e : Element) (kind : Kind)
    → fmp_part board e kind ≡ fmp_part board (plain_of e) kind
same_part board e Try = refl
same_part board e Heal = refl
same_part board e Skip = refl
same_part board e NoTarget = refl
same_part board e Bad = refl

-- the changes of a settlement around the part on the payload of its result
abbrev settled_with : BoardValue → Variables → Element → End → EfiTime → Option FmpResult
    → List Change
settled_with board variables e end now part =
    device_changes board variables e (Some end)
    ++ (result_changes (Some (record {
      number = next_result board variables;
      variable = record {
        guid = e.capsule;
        time = now;
        status = status_with e.kind (Some end);
        fmp = part;
      };
    }))
    ++ (greatest_changes board (bytes_in variables CapsuleMax)
    ++ (set_of CapsuleLast (last_bytes (next_result board variables))
    ∷ progress_changes variables e.key)))

plainly : (board : BoardValue) (variables : Variables) (e : Element) (end : End) (now : EfiTime)
    → settle_changes board variables e end now ≡ settle_changes board variables (plain_of e) end now
plainly board variables e end now =
    ap (settled_with board variables e end now) (same_part board e e.kind)

-- elements that agree so are settled by the same changes
pub settle_changes_alike : (board : BoardValue) (variables : Variables) (a b : Element) (end : End)
    (now : EfiTime) → AreAlike a b
    → settle_changes board variables a end now ≡ settle_changes board variables b end now
settle_changes_alike board variables a b end now h =
    plainly board variables a end now
    ∙ (λ i. settle_changes board variables (plain (h.kind i) (h.key i) (h.capsule i) (h.type_id i)
    (h.index i) (h.version i) (h.floor i)) end now)
    ∙ sym (plainly board variables b end now)

-- an element was tried with an FMP capsule whose item is of the type and the index of its device
pub record IsOfDevice (board : BoardValue) (e : Element) : Type 0 where
  pub kind : e.kind ≡ Try
  pub capsule : e.capsule ≡ FMP_CAPSULE_GUID
  pub type_id : e.head.type_id ≡ type_of board e.key.device
  pub index : e.head.index ≡ index_of board e.key.device

-- such an element is settled by the changes that settle its claim
pub settled_by_claim : (board : BoardValue) (variables : Variables) (e : Element) (end : End)
    (now : EfiTime) → IsOfDevice board e
    → claim_settled board variables now (claim_for e) end
    ≡ settle_changes board variables e end now
settled_by_claim board variables e end now h =
    settle_changes_alike board variables (element_claimed board (claim_for e)) e end now (record {
      kind = sym h.kind;
      key = refl;
      capsule = sym h.capsule;
      type_id = sym h.type_id;
      index = sym h.index;
      version = refl;
      floor = refl;
    })
