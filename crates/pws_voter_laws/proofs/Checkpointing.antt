-- What fits before the vote for a checkpoint fits after it.
use Rattle.std.proofs.Common.{◌≡◌, ◌%◌, true, Some, refl, sym, ap, subst, arith}
use Rattle.std.specs.FinMap.{get}
use Rattle.pws_votes.specs.declared.kinds.VoteKind.TheVariants as kind
use Rattle.pws_votes.specs.Votes.{Key, key}
use Rattle.pws_protocol.specs.States.{State}
use Rattle.pws_protocol.specs.Actions as act
use Rattle.pws_protocol.specs.Actions.{can_checkpoint}
use Rattle.pws_protocol.specs.Doing.{did, did_checkpoint, voted}
use Rattle.pws_voter_laws.proofs.Fields.{vote_fits}
use Rattle.pws_voter_laws.proofs.Parts.{Whole}
use Rattle.pws_voter_laws.proofs.Tests.{checkpoint_is_open}

-- the chain at done is among the chains, where done is a multiple of 16
pub last_chain : (s : State) → Whole s → s.done % 16 ≡ 0 → get s.chains s.done ≡ Some s.chain
last_chain s f m =
    let t = f.there s.done f.low.0 (omega arith) m in
    subst (λ d. get s.chains s.done ≡ Some d) ((f.chains s.done t.0 t.1).4 refl) t.1

pub checkpoint_fits : (s : State) → Whole s → can_checkpoint s ≡ true → Whole (did s act.Checkpoint).state
unfolding did did_checkpoint voted
checkpoint_fits s f h =
    let o = (checkpoint_is_open s h).1 in
    vote_fits s f (key kind.Checkpoint s.done s.me.index) s.chain f.numbers.1 f.chain (λ p e.
    subst (λ q. get s.chains q ≡ Some s.chain) (ap (λ (k : Key). k.place) (sym e)) (last_chain s f o))
