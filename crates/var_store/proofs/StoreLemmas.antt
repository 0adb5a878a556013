-- The store that stands on a flash.
use Rattle.std.proofs.Common.{◌≡◌, ℕ, List, refl, sym, ap, ◌∙◌}
use Rattle.std.proofs.Common.{arith, subst, true, Some}
use Rattle.std.specs.Prelude.{option_map}
use Rattle.bench_model.specs.Bench.{AreImages, BenchValue}
use Rattle.var_log.specs.declared.change.Change.{Change}
use Rattle.var_log.specs.Banks.{StoreValue, log_bank, store_in, store_of, with_batch}
use Rattle.var_log.specs.Changes.{after, no_variables}
use Rattle.var_log.specs.Logs.{HasBatch, IsLive, IsLogOf, LogValue, StandsOn}
use Rattle.var_log.specs.Opens.{log_store}
use Rattle.var_store.specs.Stores.{HeldStore, OnlyMakesPlaces, Stands, held, store_value}

some_is : {A : Type 0} (x y : A) → Some x ≡ Some y → x ≡ y
some_is x y e = grind (arith, e)

store_fields : (s : StoreValue) (log : LogValue) (places : List Change)
    → s.variables ≡ after no_variables places → s.seq ≡ log.seq → s.generation ≡ log.generation
    → s ≡ log_store log places
store_fields s log places v n g = λ i. record { variables = v i; seq = n i; generation = g i }

-- the banks of a log whose variables are these are that store
pub store_is : (banks : ℕ → List ℕ) (log : LogValue) (places : List Change) → IsLogOf log banks
    → option_map (λ (s : StoreValue). s.variables) (store_of banks) ≡ Some (after no_variables places)
    → store_of banks ≡ Some (log_store log places)
unfolding store_of
store_is banks log places is vars =
    let here : option_map (λ (k : ℕ). store_in (banks k)) (log_bank banks) ≡ Some (store_in (banks log.bank)) =
    ap (option_map (λ (k : ℕ). store_in (banks k))) is.bank in
    here ∙ ap Some (store_fields (store_in (banks log.bank)) log places
    (some_is _ _ (sym (ap (option_map (λ (s : StoreValue). s.variables)) here) ∙ vars))
    is.seq is.generation)

pub stands_from : (log : LogValue) (places : List Change) (b : BenchValue) → StandsOn log b
    → IsLive places b → Stands (held log places) b
stands_from log places b stands live = record {
  log = stands;
  store = λ told. store_is b.contents.bytes log places (stands.lies.told told).is (live told);
}

-- the bytes as read are an image where they are told
pub read_image : (b : BenchValue) → b.contents.told ≡ true → AreImages b.contents b.contents.bytes
read_image b told = λ k. record { told = told; long = refl; same = λ j clean. refl }

-- the variables of a store that stands
pub lives : (s : HeldStore) (b : BenchValue) → Stands s b → IsLive s.places b
lives s b stands told = ap (option_map (λ (s : StoreValue). s.variables)) (stands.store told)

pub lives_as : (places live : List Change) (b : BenchValue)
    → after no_variables live ≡ after no_variables places → IsLive places b → IsLive live b
lives_as places live b same is told = is told ∙ ap Some (sym same)

-- once a batch stands, its changes are made
pub lives_with : (s : HeldStore) (changes places : List Change) (old new : BenchValue) → Stands s old
    → new.contents.told ≡ old.contents.told → HasBatch changes old new
    → after no_variables places ≡ after (after no_variables s.places) changes → IsLive places new
lives_with s changes places old new stands same batch made told =
    ap (option_map (λ (s : StoreValue). s.variables))
    (batch new.contents.bytes (read_image new told)
    ∙ ap (option_map (λ (s : StoreValue). with_batch s changes)) (stands.store (sym same ∙ told)))
    ∙ ap Some (sym made)

-- a store stands wherever it stood, also with more places
pub stands_still : (old new : HeldStore) (b : BenchValue) → OnlyMakesPlaces old new → Stands old b
    → Stands new b
stands_still old new b only stands =
    let log = sym only.log in
    let same : store_value old ≡ store_value new = λ i. record {
      variables = sym only.variables i;
      seq = (log i).seq;
      generation = (log i).generation;
    } in
    record {
      log = subst (λ (l : LogValue). StandsOn l b) log stands.log;
      store = λ told. stands.store told ∙ ap Some same;
    }
