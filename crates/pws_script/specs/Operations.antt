-- The words that instructions begin with; this project's own table.
use Rattle.std.specs.Prelude.{ℕ, List, [], ◌∷◌, codes, Option}
use Rattle.std.specs.List.{find}
use Rattle.std.specs.Str.{bytes_eq}
use Rattle.pws_script.specs.declared.operations.Operation.{Operation}
use Rattle.pws_script.specs.declared.operations.Operation.TheVariants as operation

abbrev pub name_of : Operation → List ℕ
name_of operation.Set = codes "set"
name_of operation.Add = codes "add"
name_of operation.Sub = codes "sub"
name_of operation.Less = codes "less"
name_of operation.Same = codes "same"
name_of operation.Jump = codes "jump"
name_of operation.Join = codes "join"
name_of operation.Field = codes "field"
name_of operation.Receive = codes "receive"
name_of operation.Call = codes "call"
name_of operation.Await = codes "await"
name_of operation.AwaitAny = codes "awaitany"
name_of operation.Next = codes "next"
name_of operation.Reply = codes "reply"
name_of operation.Clock = codes "clock"
name_of operation.Seed = codes "seed"
name_of operation.Draw = codes "draw"
name_of operation.Stop = codes "stop"

abbrev pub operations : List Operation
operations =
    operation.Set ∷ operation.Add ∷ operation.Sub ∷ operation.Less ∷ operation.Same ∷ operation.Jump ∷ operation.Join ∷ operation.Field ∷ operation.Receive ∷ operation.Call ∷ operation.Await ∷ operation.AwaitAny ∷ operation.Next ∷ operation.Reply ∷ operation.Clock ∷ operation.Seed ∷ operation.Draw ∷ operation.Stop ∷ []

-- the operation of this name
unfoldable pub operation_named : List ℕ → Option Operation
operation_named word = find (λ o. bytes_eq (name_of o) word) operations
