-- Calls by their keys.
use Rattle.std.specs.Prelude.{not, Bool, List}
use Rattle.std.specs.List.{list_any, filter}
use Rattle.pws_service.specs.declared.keys.Key.{Key}
use Rattle.pws_service.specs.Keys.{same_key}

-- whether the call is among these
abbrev pub has_key : List Key → Key → Bool
has_key ks k = list_any (same_key k) ks

-- these calls but this one
abbrev pub without : Key → List Key → List Key
without k ks = filter (λ other. not (same_key k other)) ks
