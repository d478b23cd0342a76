-- What of a voter's state alone its steps rest on: above all, what makes valid what it reports as it moves to a view; this
-- project's own. Every voter that fits is ready; this part is kept by itself.
use Rattle.std.specs.Prelude.{◌≡◌, ℕ, ◌<◌, ◌≤◌, ◌+◌, ◌%◌, true, List, Some}
use Rattle.std.specs.Ordering.{nat_cmp}
use Rattle.std.specs.FinMap.{FinMap, get, len}
use Rattle.pws_base.specs.Limits.{place_window, checkpoint_distance}
use Rattle.pws_change.specs.Sets.{Digests}
use Rattle.pws_protocol.specs.States.{State, Slot, first_chain}
use Rattle.pws_protocol.specs.Fits.{FitsEvidence}

-- whether a place is one of the window
abbrev pub IsInWindow : ℕ → ℕ → Type 0
IsInWindow low p = (low < p) × (p ≤ low + place_window)

-- of the chains: their places are multiples of 16 from the low mark on, none above the last one executed; the low mark
-- has one; that at 0 has zeros
pub record ChainsReady (low done : ℕ) (chains : FinMap nat_cmp (List ℕ)) : Type 0 where
  pub at_low : (d : List ℕ) × (get chains low ≡ Some d)
  pub places : (p : ℕ) (d : List ℕ) → get chains p ≡ Some d → (low ≤ p) × (p ≤ done) × (p % checkpoint_distance ≡ 0)
  pub first : (d : List ℕ) → get chains 0 ≡ Some d → d ≡ first_chain

-- of a row of Q that it has 1 to 16 digests, of views up to this one
abbrev pub IsRowReady : ℕ → Digests → Type 0
IsRowReady view row = (1 ≤ len row) × (len row ≤ 16) × ((d : List ℕ) (v : ℕ) → get row d ≡ Some v → v ≤ view)

pub record IsReady (s : State) : Type 0 where
  pub low : s.low % checkpoint_distance ≡ 0
  pub done : (s.low ≤ s.done) × (s.done ≤ s.low + place_window)
  pub chains : ChainsReady s.low s.done s.chains
  -- slots are in the window, and a committed one is prepared
  pub slots : (p : ℕ) (t : Slot) → get s.slots p ≡ Some t → IsInWindow s.low p
  pub committed : (p : ℕ) (t : Slot) → get s.slots p ≡ Some t → t.is_committed ≡ true → t.is_prepared ≡ true
  -- P and Q have places of the window, and views up to this one
  pub prepared : (p : ℕ) (d : List ℕ) (v : ℕ) → get s.prepared p ≡ Some (d, v) → IsInWindow s.low p × (v ≤ s.view)
  pub pre_prepared : (p : ℕ) (row : Digests) → get s.pre_prepared p ≡ Some row → IsInWindow s.low p × IsRowReady s.view row
  -- evidence stands under its own keys
  pub evidence : FitsEvidence s.evidence
