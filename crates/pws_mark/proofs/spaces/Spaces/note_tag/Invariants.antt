use Rattle.std.proofs.Common.{◌≡◌, take, map, fold}
use Rattle.pws_mark.specs.Canonical.{with_space}
use Rattle.pws_mark.proofs.spaces.Spaces.note_tag.Given as goal

abbrev pub invariant-loop-attr : goal.invariant-loop-attr
invariant-loop-attr l = l.self ≡ fold with_space l.initial.self (map (λ a. a.name.space) (take l.attr-index l.attr-items))
