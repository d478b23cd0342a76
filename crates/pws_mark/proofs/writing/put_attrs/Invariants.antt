use Rattle.std.proofs.Common.{◌≡◌, ◌++◌, take}
use Rattle.std.specs.List.{flat_map}
use Rattle.pws_mark.specs.Canonical.{attr_text}
use Rattle.pws_mark.proofs.writing.put_attrs.Given as goal

abbrev pub invariant-loop-attr : goal.invariant-loop-attr
invariant-loop-attr l = l.out ≡ l.initial.out ++ flat_map (attr_text l.spaces) (take l.attr-index l.attrs)
