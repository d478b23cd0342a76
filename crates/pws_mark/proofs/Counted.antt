-- The place is the number of bytes that were read.
use Rattle.std.proofs.Common.{◌≡◌, ℕ, ◌+◌, List, [], ◌∷◌, ◌++◌, length, ap, arith, length-append, Option, Some, None}
use Rattle.std.specs.Prelude.{option_map, encode_utf8, encode_utf8_all}
use Rattle.pws_mark.specs.ReaderLaws.{PlacesCount}
use Rattle.pws_mark.specs.Scan.{run, then_run, next, start}
use Rattle.pws_mark.specs.States.{Outer, State}
use Rattle.pws_mark.specs.declared.modes.Mode.{Mode}

pub counts : (cs : List ℕ) (s t : State) → run s cs ≡ Some t → t.at ≡ s.at + length (encode_utf8_all cs)
unfolding run
counts [] s t h = let e : s ≡ t = cc in omega (arith, ap (λ z. z.at) e)
counts (c ∷ cs) s t h = by (next s.mode s.outer s.at c) (λ u. counts cs u t) h
  where
    by : (n : Option (Mode × Outer)) → ((u : State) → run u cs ≡ Some t → t.at ≡ u.at + length (encode_utf8_all cs)) → then_run (option_map (λ m. record { at = s.at + length (encode_utf8 c); mode = m.0; outer = m.1 }) n) (λ u. run u cs) ≡ Some t → t.at ≡ s.at + length (encode_utf8 c ++ encode_utf8_all cs)
    by None again g = absurd cc
    by (Some m) again g = omega (arith, again (record { at = s.at + length (encode_utf8 c); mode = m.0; outer = m.1 }) g, length-append (encode_utf8 c) (encode_utf8_all cs))

pub places_count : PlacesCount
places_count front s h = omega (arith, counts front start s h)
