-- A reply is written once all stores are made. A procedure that replies stores nothing, so it tells of the image as it was.
-- Assumes nothing.
use Prim.Native.Nat.{ℕ}
use mathlib.Core.Path.{◌≡◌, refl}
use mathlib.Core.List.{List}
use Rattle.marks.specs.Stores.{stored}
use Rattle.procedures.specs.Procedures.{procedure_is}
use Rattle.procedures.specs.declared.procedure.Procedure as code
use Rattle.procedures.specs.declared.procedure.Procedure.TheVariants as procedure

pub reply-after : (p : code.Procedure) (image : List ℕ) (e last n : ℕ) (value : List ℕ)
    → (procedure_is p).reply (stored image ((procedure_is p).stores image e n value)) e last value ≡ (procedure_is p).reply image e last value
unfolding stored
reply-after procedure.Start image e last n value = refl
reply-after procedure.Stop image e last n value = refl
reply-after procedure.Rekey image e last n value = refl
reply-after procedure.Expire image e last n value = refl
reply-after procedure.SetNumber image e last n value = refl
reply-after procedure.SetWindow image e last n value = refl
reply-after procedure.Status image e last n value = refl
reply-after procedure.ReadNumber image e last n value = refl
reply-after procedure.Ping image e last n value = refl
reply-after procedure.Activation image e last n value = refl
reply-after procedure.Deactivation image e last n value = refl
reply-after procedure.Inventory image e last n value = refl
