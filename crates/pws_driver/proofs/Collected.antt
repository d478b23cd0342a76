-- The calls in registers, one register more.
use Rattle.std.proofs.Common.{◌≡◌, ℕ, ◌+◌, ◌<◌, List, [], ◌∷◌, ◌++◌, length, take, slice_index_or, Option, ap, ◌∙◌, sym}
use Rattle.std.specs.List.{filter_map, cons_option}
use Rattle.std.proofs.lemmas.List.Elements.{filter_map-append}
use Rattle.std.proofs.lemmas.List.{take_more}
use Rattle.pws_service.specs.declared.keys.Key.{Key}
use Rattle.pws_driver.specs.declared.cores.Core.{Core}
use Rattle.pws_driver.specs.Values.{call_of}
use Rattle.pws_driver.specs.Moves.{held}
use Rattle.pws_driver.specs.Instructions.{calls_in}

pub calls_more : (c : Core) (rs : List ℕ) (i r : ℕ) → i < length rs → r ≡ slice_index_or rs i r → calls_in c (take (i + 1) rs) ≡ calls_in c (take i rs) ++ cons_option (call_of (held c r)) []
calls_more c rs i r h e =
    let f : ℕ → Option Key = λ x. call_of (held c x) in
    ap (filter_map f) (take_more rs i r h ∙ ap (λ (x : ℕ). take i rs ++ x ∷ []) (sym e)) ∙ filter_map-append f (take i rs) (r ∷ [])
