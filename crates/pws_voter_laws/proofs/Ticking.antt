-- What fits before a tick fits after it.
use Rattle.std.proofs.Common.{◌≡◌, ℕ, suc, ◌+◌, ◌≤◌, ◌&&◌, not, min, Bool, true, false, if◌then◌else◌, List, [], ◌∷◌, sym, ◌∙◌, ap, arith}
use Rattle.std.specs.List.{All, fold}
use Rattle.std.specs.Ordering.{nat_cmp}
use Rattle.std.specs.Cmp.Lexicographic.{slice_cmp}
use Rattle.std.specs.FinSet.{contains-empty}
use Rattle.std.proofs.lemmas.Bool.{false≢true, eq-eqb}
use Rattle.pws_event.specs.Counters.{Counters}
use Rattle.pws_msg.specs.Contents.{IsContent}
use Rattle.pws_msg.specs.declared.contents.Content.{Content}
use Rattle.pws_protocol.specs.States.{State, own_id, is_alone}
use Rattle.pws_protocol.specs.Ticks.{with_own, is_waiting_for, waited_on, ticked, tick}
use Rattle.pws_voter_laws.proofs.Evidencing.{noted_fits}
use Rattle.pws_voter_laws.proofs.Parts.{Whole}

pub own_fits : (asked : Counters) (cs : List Content) (s : State) → All IsContent cs → Whole s → Whole (fold (with_own asked) s cs)
own_fits asked [] s i f = f
own_fits asked (c ∷ cs) s i f = own_fits asked cs (with_own asked s c) (λ k d l. i (suc k) d (omega (arith, l))) (noted_fits s asked (own_id s) c [] f (i 0 c (omega arith)) (omega arith))

few_waited : (b : Bool) (n : ℕ) → (if b then min n 512 else 0) ≤ 512
few_waited true n = omega arith
few_waited false n = omega arith

waited_few : (s : State) (asked : Counters) → waited_on s asked ≤ 512
unfolding waited_on
waited_few s asked = few_waited (not (is_alone s) && is_waiting_for s asked) (s.waited + 1)

waited_alone : (s : State) (asked : Counters) → s.me.f ≡ 0 → waited_on s asked ≡ 0
unfolding waited_on
waited_alone s asked z = ap (λ b. if not b && is_waiting_for s asked then min (s.waited + 1) 512 else 0) (eq-eqb s.me.f 0 z)

pub ticked_fits : (s : State) (asked : Counters) → Whole s → Whole (ticked s asked)
unfolding ticked
ticked_fits s asked f = record {
  who = f.who;
  evidence = f.evidence;
  bodies = f.bodies;
  book = f.book;
  votes = f.votes;
  numbers = f.numbers;
  own_votes = f.own_votes;
  waited = waited_few s asked;
  marks = f.marks;
  acks = f.acks;
  needed = λ d h. absurd (false≢true (sym (contains-empty (slice_cmp nat_cmp) d) ∙ h));
  low = f.low;
  pending = f.pending;
  slots = f.slots;
  way = f.way;
  started = f.started;
  new_view = f.new_view;
  texts = f.texts;
  dones = f.dones;
  there = f.there;
  chains = f.chains;
  chain = f.chain;
  prepared = f.prepared;
  pre_prepared = f.pre_prepared;
  heard = f.heard;
  own = f.own;
  relayed = f.relayed;
  alone_view = f.alone_view;
  alone_waited = waited_alone s asked;
  alone_held = f.alone_held;
}

pub tick_fits : (s : State) (asked : Counters) (own : List Content) → Whole s → All IsContent own → Whole (tick s asked own).state
unfolding tick
tick_fits s asked own f i = ticked_fits (fold (with_own asked) s own) asked (own_fits asked own s i f)
