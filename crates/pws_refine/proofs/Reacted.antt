-- A whole reaction, action after action: the group keeps its invariant, and all stands on which the next actions rest.
use Rattle.std.proofs.Common.{◌≡◌, inl, inr, ℕ, Bool, true, false, cond, List, [], ◌∷◌, ◌++◌, Some, Contains, refl, sym, ◌∙◌, ap, subst, ◌==◌, append_assoc}
use mathlib.Core.Path.{fun_ext}
use Rattle.std.specs.List.{fold}
use Rattle.std.specs.FinMap.{retain_keys}
use Rattle.std.specs.FinSet as set
use Rattle.std.proofs.lemmas.Bool.{eq-eqb, cond-true}
use Rattle.std.proofs.lemmas.List.Elements.{Contains-append_left, Contains-append_right, Contains-append_cases}
use Rattle.std.proofs.lemmas.Map.Lookups.{exact_bytes}
use Rattle.pws_base.proofs.Maps.{retain_cases}
use Rattle.pws_base.proofs.Members.{nowhere, here, there}
use Rattle.pws_event.specs.Counters.{Counters}
use Rattle.pws_msg.specs.declared.contents.Content.{Content}
use Rattle.pws_msg.specs.Contents.{IsContent}
use Rattle.pws_safety.specs.Statement.{Statement}
use Rattle.pws_safety.specs.Statements.{Sent, IsCorrect}
use Rattle.pws_safety.specs.Voters.{Core}
use Rattle.pws_safety.specs.Kept.{GroupKeeps}
use Rattle.pws_safety.specs.Runs.{IsTrusted, with_core, said_by}
use Rattle.pws_protocol.specs.Keys.{replica}
use Rattle.pws_protocol.specs.Evidence.{settled}
use Rattle.pws_protocol.specs.States.{Me, State, own_id}
use Rattle.pws_protocol.specs.Gathered.{possible_choice}
use Rattle.pws_protocol.specs.Hearing.{Out, Send, SaidFields, Answered, heard}
use Rattle.pws_protocol.specs.Actions.{Action, next_action}
use Rattle.pws_protocol.specs.Doing.{Reaction, did}
use Rattle.pws_protocol.specs.Ticks.{with_own, waited_on, ticked, repeats, tick}
use Rattle.pws_protocol.specs.Reactions.{Input, Said, Tick, Resume, settled_state, is_named, tidied, after_packet, begun, then_did, Acts, rests, ends, goes, Follows}
use Rattle.pws_protocol.specs.Fits.{IsSaid, IsInput}
use Rattle.pws_protocol.specs.Executed.{executed_in}
use Rattle.pws_protocol.proofs.Calm.{executed_both}
use Rattle.pws_protocol.proofs.Noting.{after_settling}
use Rattle.pws_protocol.proofs.Staying.{begun_executes_nothing}
use Rattle.pws_refine.specs.Cores.{core_of, statements_in}
use Rattle.pws_refine.specs.Contexts.{Context, IsLawful, IsOf, IsInRun}
use Rattle.pws_refine.specs.Inputs.{IsGiven}
use Rattle.pws_refine.specs.Links.{Links}
use Rattle.pws_refine.specs.Ready.{IsReady}
use Rattle.pws_refine.specs.Laws.{Stands, Carried, ReactionsRefine}
use Rattle.pws_refine.proofs.Decided.{decided_more, did_decided}
use Rattle.pws_refine.proofs.Enabled.{enabled}
use Rattle.pws_refine.proofs.Evident.{settled_statement, settled_group}
use Rattle.pws_refine.proofs.Fine.{Fine, then_fine, rest_of, other, says_append}
use Rattle.pws_refine.proofs.Grouped.{own_core, actions_keep_group}
use Rattle.pws_refine.proofs.Heard.{evidence_fine, heard_quiet}
use Rattle.pws_refine.proofs.Places.{has_others}
use Rattle.pws_refine.proofs.Readied.{actions_keep}
use Rattle.pws_refine.proofs.Repeated.{ticks_repeat}

module _ (c : Context) (sent : Sent) (s : State) (is : IsOf c s) (ready : IsReady s) (l : Links c sent s) where
  -- texts are dropped
  tidied_fine : Fine c sent s (tidied s)
  unfolding tidied
  tidied_fine = other c sent s is ready (record (rest_of s) { texts = retain_keys s.texts (is_named s (possible_choice s)) }) refl refl (record {
    heard = l.heard;
    own = l.own;
    acks = l.acks;
    new_view = l.new_view;
    relayed = l.relayed;
    pending = l.pending;
    prepares = l.prepares;
    commits = l.commits;
    checkpoints = l.checkpoints;
    dones = l.dones;
    evidence = l.evidence;
    texts = λ d e h. l.texts d e (retain_cases exact_bytes s.texts (is_named s (possible_choice s)) d e h).1;
  })

  -- evidence is settled
  settled_fine : (asked : Counters) → Fine c sent s (settled_state s asked)
  unfolding settled_state
  settled_fine asked =
      let g = settled_group s.evidence asked in
      record {
        links = record { heard = l.heard; own = l.own; acks = l.acks; new_view = l.new_view; relayed = l.relayed; pending = l.pending; prepares = l.prepares; commits = l.commits; checkpoints = l.checkpoints; dones = l.dones; evidence = λ k x h. l.evidence k x (settled_statement s.evidence asked k x h); texts = l.texts };
        is_of = record { me = is.me; book = is.book; group = g.0 ∙ is.group; layout = g.1 ∙ is.layout };
        ready = record { low = ready.low; done = ready.done; chains = ready.chains; slots = ready.slots; committed = ready.committed; prepared = ready.prepared; pre_prepared = ready.pre_prepared; evidence = after_settling s.evidence asked ready.evidence };
        core = λ said. refl;
      }

  -- a tick is counted
  ticked_fine : (asked : Counters) → Fine c sent s (ticked s asked)
  unfolding ticked
  ticked_fine asked = other c sent s is ready (record (rest_of s) { waited = waited_on s asked; needed = set.empty }) refl refl (record { heard = l.heard; own = l.own; acks = l.acks; new_view = l.new_view; relayed = l.relayed; pending = l.pending; prepares = l.prepares; commits = l.commits; checkpoints = l.checkpoints; dones = l.dones; evidence = l.evidence; texts = l.texts })

-- what the voter itself says at a tick is heard
own_fine : (c : Context) (sent : Sent) (s : State) (asked : Counters) (own : List Content) (t : State) → ((k : Content) → Contains own k → (c.speaks (replica c.me.group c.me.index) k ≡ true) × IsContent k) → Fine c sent s t → Fine c sent s (fold (with_own asked) t own)
own_fine c sent s asked [] t each f = f
own_fine c sent s asked (k ∷ ks) t each f =
    let x = each k (here k ks) in
    let spoken : c.speaks (own_id t) k ≡ true = subst (λ (m : Me). c.speaks (replica m.group m.index) k ≡ true) (sym f.is_of.me) x.0 in
    own_fine c sent s asked ks (with_own asked t k) (λ y m. each y (there k y ks m)) (then_fine c sent s t (with_own asked t k) f (evidence_fine c sent t f.is_of f.ready f.links asked (own_id t) k [] spoken x.1))

-- an input to the voter is one after its evidence was settled
pub settled_said : (s : State) (asked : Counters) (x : SaidFields) → IsSaid s x → IsSaid (settled_state s asked) x
unfolding settled_state settled
settled_said s asked x h = record {
  sender = record { replica = h.sender.replica; other = h.sender.other };
  content = h.content;
  tags = h.tags;
  body = h.body;
  outside = h.outside;
  inside = h.inside;
  vouchers = λ k d i. let v = h.vouchers k d i in record { content = v.content; tags = v.tags; sender = λ e. record { replica = (v.sender e).replica; other = (v.sender e).other } };
}

-- statements with their sender, one list after another
by_append : (i : ℕ) (xs ys : List Statement) → said_by i (xs ++ ys) ≡ said_by i xs ++ said_by i ys
by_append i [] ys = refl
by_append i (x ∷ xs) ys = ap (λ zs. (i, x) ∷ zs) (by_append i xs ys)

twice_by : (cores : ℕ → Core) (k : ℕ) (a b : Core) (t : Bool) → cond t b (cond t a (cores k)) ≡ cond t b (cores k)
twice_by cores k a b true = refl
twice_by cores k a b false = refl

-- of two states of one replica the later counts
twice : (cores : ℕ → Core) (i : ℕ) (a b : Core) → with_core (with_core cores i a) i b ≡ with_core cores i b
twice cores i a b = fun_ext (λ k. twice_by cores k a b (k == i))

at_own : (cores : ℕ → Core) (i : ℕ) (a : Core) → with_core cores i a i ≡ a
at_own cores i a = cond-true (i == i) a (cores i) (eq-eqb i i refl)

module _ (c : Context) (cores : ℕ → Core) (sent : Sent) (said : List Statement) (asked : Counters) (trusted : IsTrusted c.group) (correct : IsCorrect c.group c.me.index) (law : IsLawful c) where
  abbrev now : List Statement → Sent
  now more = said_by c.me.index more ++ sent

  -- one action more
  turn : (r : Reaction) (a : Action) → next_action r.state asked ≡ Some a → IsInRun c (did r.state a).outs → Carried c cores sent said r → Carried c cores sent said (then_did r a)
  unfolding then_did
  turn r a h occur k =
      let xs = statements_in (did r.state a).outs in
      let t = (did r.state a).state in
      let st = k.stands in
      let before = core_of r.state (k.more ++ said) in
      let g = actions_keep_group c (with_core cores c.me.index before) (now k.more) r.state (k.more ++ said) asked a trusted k.keeps correct (at_own cores c.me.index before) law st h occur in
      let stay = actions_keep c (now k.more) r.state asked a law st h occur in
      let sent' : said_by c.me.index xs ++ now k.more ≡ now (xs ++ k.more) = sym (append_assoc (said_by c.me.index xs) (said_by c.me.index k.more) sent) ∙ ap (λ zs. zs ++ sent) (sym (by_append c.me.index xs k.more)) in
      let said' : xs ++ (k.more ++ said) ≡ (xs ++ k.more) ++ said = sym (append_assoc xs k.more said) in
      let tidy = tidied_fine c (now (xs ++ k.more)) t stay.is_of stay.ready (subst (λ zs. Links c zs t) sent' stay.links) in
      let split = says_append r.outs (did r.state a).outs in
      record {
        more = xs ++ k.more;
        keeps =
            subst (λ zs. GroupKeeps c.group (with_core cores c.me.index zs) (now (xs ++ k.more))) (sym (tidy.core ((xs ++ k.more) ++ said)))
            (subst (λ zs. GroupKeeps c.group (with_core cores c.me.index (core_of t zs)) (now (xs ++ k.more))) said'
            (subst (λ zs. GroupKeeps c.group (with_core cores c.me.index (core_of t (xs ++ (k.more ++ said)))) zs) sent'
            (subst (λ cs. GroupKeeps c.group cs (said_by c.me.index xs ++ now k.more)) (twice cores c.me.index before (core_of t (xs ++ (k.more ++ said)))) g)));
        stands = record { is_of = tidy.is_of; ready = tidy.ready; links = tidy.links };
        out = λ x m.
            elim (Contains-append_cases (statements_in r.outs) xs x (subst (λ ys. Contains ys x) split m)) [
              | inl y ↦ subst (λ ys. Contains ys x) said' (Contains-append_right xs (k.more ++ said) x (k.out x y))
              | inr y ↦ Contains-append_left (xs ++ k.more) said x (Contains-append_left xs k.more x y)
            ];
        new = λ x m.
            subst (λ ys. Contains ys x) (sym split) (elim (Contains-append_cases xs k.more x m) [
              | inl y ↦ Contains-append_right (statements_in r.outs) xs x y
              | inr y ↦ Contains-append_left (statements_in r.outs) xs x (k.new x y)
            ]);
        executed = λ x m.
            let grow : (i : ℕ) (y : Statement) → Contains (now k.more) (i, y) → Contains (now (xs ++ k.more)) (i, y) = λ i y z. subst (λ zs. Contains zs (i, y)) sent' (Contains-append_right (said_by c.me.index xs) (now k.more) (i, y) z) in
            decided_more c (now k.more) (now (xs ++ k.more)) x.place x.event grow
            (elim (Contains-append_cases (executed_in r.outs) (executed_in (did r.state a).outs) x (subst (λ ys. Contains ys x) (executed_both r.outs (did r.state a).outs) m)) [
              | inl y ↦ k.executed x y
              | inr y ↦ did_decided c (with_core cores c.me.index before) (now k.more) r.state (k.more ++ said) trusted k.keeps correct (at_own cores c.me.index before) law st.is_of st.links asked a (enabled r.state asked a h) x y
            ]);
      }

  -- what went out stays in what goes out
  abbrev Grows : List Out → List Out → Type 0
  Grows xs ys = (x : Out) → Contains xs x → Contains ys x

  did_grows : (r : Reaction) (a : Action) → Grows r.outs (then_did r a).outs × Grows (did r.state a).outs (then_did r a).outs
  unfolding then_did
  did_grows r a = (λ x m. Contains-append_left r.outs (did r.state a).outs x m, λ x m. Contains-append_right r.outs (did r.state a).outs x m)

  grows : (r u : Reaction) → Acts asked r u → Grows r.outs u.outs
  grows r u (rests r' e) x m = m
  grows r u (ends r' a e f) x m = (did_grows r a).0 x m
  grows r u (goes r' u' a e f more) x m = grows (then_did r a) u more x ((did_grows r a).0 x m)

  acts_carried : (r u : Reaction) → Acts asked r u → IsInRun c u.outs → Carried c cores sent said r → Carried c cores sent said u
  acts_carried r u (rests r' e) occur k = k
  acts_carried r u (ends r' a e f) occur k = turn r a e (λ x v m. occur x v ((did_grows r a).1 (Send x v) m)) k
  acts_carried r u (goes r' u' a e f more) occur k =
      acts_carried (then_did r a) u more occur (turn r a e (λ x v m. occur x v (grows (then_did r a) u more (Send x v) ((did_grows r a).1 (Send x v) m))) k)

  module _ (s : State) (keeps : GroupKeeps c.group cores sent) (at : cores c.me.index ≡ core_of s said) where
    -- what comes before any action says nothing new
    first : (r : Reaction) → Fine c sent s r.state → ((x : Statement) → Contains (statements_in r.outs) x → Contains said x) → executed_in r.outs ≡ [] → Carried c cores sent said r
    first r f out none = record {
      more = [];
      keeps = subst (λ cs. GroupKeeps c.group cs sent) (sym (own_core cores c.me.index (core_of r.state said) (f.core said ∙ sym at))) keeps;
      stands = record { is_of = f.is_of; ready = f.ready; links = f.links };
      out = out;
      new = λ x m. absurd (nowhere x m);
      executed = λ x m. absurd (nowhere x (subst (λ ys. Contains ys x) none m));
    }

    packet_fine : (a : Answered) → Fine c sent s a.state → Fine c sent s (after_packet a).reaction.state
    packet_fine a f = go a.is_kept
      where
        go : (b : Bool) → Fine c sent s (cond b (tidied a.state) a.state)
        go true = then_fine c sent s a.state (tidied a.state) f (tidied_fine c sent a.state f.is_of f.ready f.links)
        go false = f

    silent : (xs : List Statement) → xs ≡ [] → (x : Statement) → Contains xs x → Contains said x
    silent xs e x m = absurd (nowhere x (subst (λ ys. Contains ys x) e m))

    tick_carried : (t : State) (own : List Content) → Fine c sent s t → ((k : Content) → Contains own k → (c.speaks (replica c.me.group c.me.index) k ≡ true) × IsContent k) → Carried c cores sent said (tick t asked own)
    unfolding tick
    tick_carried t own f each =
        let g = own_fine c sent s asked own t each f in
        let v = fold (with_own asked) t own in
        let u = ticked v asked in
        let h = then_fine c sent s v u g (ticked_fine c sent v g.is_of g.ready g.links asked) in
        let apart = has_others c u law h.is_of in
        first (tick t asked own) h (λ x m. ticks_repeat c cores sent u said keeps correct (at ∙ sym (h.core said)) law (record { is_of = h.is_of; ready = h.ready; links = h.links }) x (subst (λ b. Contains (statements_in (cond b [] (repeats u))) x) apart m))
        (begun_executes_nothing t asked (Tick own))

    begun_carried : (input : Input) → Stands c sent s → IsInput s input → IsGiven c sent input → Carried c cores sent said (begun (settled_state s asked) asked input).reaction
    begun_carried (Said x) st i given =
        let f = settled_fine c sent s st.is_of st.ready st.links asked in
        let t = settled_state s asked in
        let q = heard_quiet c sent t law f.is_of f.ready f.links asked x (settled_said s asked x i) given in
        first (after_packet (heard t asked x)).reaction (packet_fine (heard t asked x) (then_fine c sent s t (heard t asked x).state f q.0)) (silent (statements_in (heard t asked x).outs) q.1) (begun_executes_nothing t asked (Said x))
    begun_carried (Tick own) st i given =
        let f = settled_fine c sent s st.is_of st.ready st.links asked in
        tick_carried (settled_state s asked) own f (λ k m. (given k m, subst IsContent m.2 (i m.0 k m.1)))
    begun_carried Resume st i given = first (record { state = settled_state s asked; outs = [] }) (settled_fine c sent s st.is_of st.ready st.links asked) (λ x m. absurd (nowhere x m)) (begun_executes_nothing (settled_state s asked) asked Resume)

    follows : (b : Bool) (r u : Reaction) → Follows asked b r u → IsInRun c u.outs → Carried c cores sent said r → Carried c cores sent said u
    follows true r u f occur k = acts_carried r u f occur k
    follows false r u f occur k = subst (Carried c cores sent said) f k

pub reactions_refine : ReactionsRefine
reactions_refine c cores sent s said asked input r trusted keeps correct at law st i given reacts occur =
    let b = begun (settled_state s asked) asked input in
    follows c cores sent said asked trusted correct law s keeps at b.goes_on b.reaction r reacts occur (begun_carried c cores sent said asked trusted correct law s keeps at input st i given)
