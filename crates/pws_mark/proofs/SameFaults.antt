-- Lists with the same faults.
use Rattle.std.proofs.Common.{◌≡◌, ◌⊎◌, inl, inr, List, ◌++◌, subst}
use Rattle.std.specs.Prelude.{Contains}
use Rattle.std.proofs.lemmas.List.Elements.{Contains-append_left, Contains-append_right, Contains-append_cases}
use Rattle.pws_mark.specs.Faults.{Fault}
use Rattle.pws_mark.specs.Noted.{SameFaults}

pub same_faults : (fs : List Fault) → SameFaults fs fs
same_faults fs f = (λ h. h, λ h. h)

pub then_same : (fs gs hs : List Fault) → SameFaults fs gs → SameFaults gs hs → SameFaults fs hs
then_same fs gs hs a b f = (λ h. (b f).0 ((a f).0 h), λ h. (a f).1 ((b f).1 h))

pub same_by : (fs gs : List Fault) → fs ≡ gs → SameFaults fs gs
same_by fs gs e = subst (λ hs. SameFaults fs hs) e (same_faults fs)

both_include : (fs gs hs ks : List Fault) → ((f : Fault) → Contains fs f → Contains gs f) → ((f : Fault) → Contains hs f → Contains ks f) → (f : Fault) → Contains (fs ++ hs) f → Contains (gs ++ ks) f
both_include fs gs hs ks a b f h = by (Contains-append_cases fs hs f h)
  where
    by : Contains fs f ⊎ Contains hs f → Contains (gs ++ ks) f
    by (inl i) = Contains-append_left gs ks f (a f i)
    by (inr i) = Contains-append_right gs ks f (b f i)

pub both_same : (fs gs hs ks : List Fault) → SameFaults fs gs → SameFaults hs ks → SameFaults (fs ++ hs) (gs ++ ks)
both_same fs gs hs ks a b f = (both_include fs gs hs ks (λ e. (a e).0) (λ e. (b e).0) f, both_include gs fs ks hs (λ e. (a e).1) (λ e. (b e).1) f)

-- the faults of two values stand before those of names or behind
pub same_shuffled : (vs ws ps ts es : List Fault) → SameFaults ((vs ++ ws) ++ (ps ++ (ts ++ es))) (ps ++ (ts ++ (vs ++ (ws ++ es))))
same_shuffled vs ws ps ts es f = (there, back)
  where
    in_p : Contains ps f → Contains (ps ++ (ts ++ (vs ++ (ws ++ es)))) f
    in_p h = Contains-append_left ps (ts ++ (vs ++ (ws ++ es))) f h

    behind_p : Contains (ts ++ (vs ++ (ws ++ es))) f → Contains (ps ++ (ts ++ (vs ++ (ws ++ es)))) f
    behind_p h = Contains-append_right ps (ts ++ (vs ++ (ws ++ es))) f h

    behind_t : Contains (vs ++ (ws ++ es)) f → Contains (ts ++ (vs ++ (ws ++ es))) f
    behind_t h = Contains-append_right ts (vs ++ (ws ++ es)) f h

    front_cases : Contains vs f ⊎ Contains ws f → Contains (ps ++ (ts ++ (vs ++ (ws ++ es)))) f
    front_cases (inl h) = behind_p (behind_t (Contains-append_left vs (ws ++ es) f h))
    front_cases (inr h) = behind_p (behind_t (Contains-append_right vs (ws ++ es) f (Contains-append_left ws es f h)))

    last_cases : Contains ts f ⊎ Contains es f → Contains (ps ++ (ts ++ (vs ++ (ws ++ es)))) f
    last_cases (inl h) = behind_p (Contains-append_left ts (vs ++ (ws ++ es)) f h)
    last_cases (inr h) = behind_p (behind_t (Contains-append_right vs (ws ++ es) f (Contains-append_right ws es f h)))

    middle_cases : Contains ps f ⊎ Contains (ts ++ es) f → Contains (ps ++ (ts ++ (vs ++ (ws ++ es)))) f
    middle_cases (inl h) = in_p h
    middle_cases (inr h) = last_cases (Contains-append_cases ts es f h)

    whole_cases : Contains (vs ++ ws) f ⊎ Contains (ps ++ (ts ++ es)) f → Contains (ps ++ (ts ++ (vs ++ (ws ++ es)))) f
    whole_cases (inl h) = front_cases (Contains-append_cases vs ws f h)
    whole_cases (inr h) = middle_cases (Contains-append_cases ps (ts ++ es) f h)

    there : Contains ((vs ++ ws) ++ (ps ++ (ts ++ es))) f → Contains (ps ++ (ts ++ (vs ++ (ws ++ es)))) f
    there h = whole_cases (Contains-append_cases (vs ++ ws) (ps ++ (ts ++ es)) f h)

    first_back : Contains (vs ++ ws) f → Contains ((vs ++ ws) ++ (ps ++ (ts ++ es))) f
    first_back h = Contains-append_left (vs ++ ws) (ps ++ (ts ++ es)) f h

    rest_back : Contains (ps ++ (ts ++ es)) f → Contains ((vs ++ ws) ++ (ps ++ (ts ++ es))) f
    rest_back h = Contains-append_right (vs ++ ws) (ps ++ (ts ++ es)) f h

    w_back : Contains ws f ⊎ Contains es f → Contains ((vs ++ ws) ++ (ps ++ (ts ++ es))) f
    w_back (inl h) = first_back (Contains-append_right vs ws f h)
    w_back (inr h) = rest_back (Contains-append_right ps (ts ++ es) f (Contains-append_right ts es f h))

    v_back : Contains vs f ⊎ Contains (ws ++ es) f → Contains ((vs ++ ws) ++ (ps ++ (ts ++ es))) f
    v_back (inl h) = first_back (Contains-append_left vs ws f h)
    v_back (inr h) = w_back (Contains-append_cases ws es f h)

    t_back : Contains ts f ⊎ Contains (vs ++ (ws ++ es)) f → Contains ((vs ++ ws) ++ (ps ++ (ts ++ es))) f
    t_back (inl h) = rest_back (Contains-append_right ps (ts ++ es) f (Contains-append_left ts es f h))
    t_back (inr h) = v_back (Contains-append_cases vs (ws ++ es) f h)

    p_back : Contains ps f ⊎ Contains (ts ++ (vs ++ (ws ++ es))) f → Contains ((vs ++ ws) ++ (ps ++ (ts ++ es))) f
    p_back (inl h) = rest_back (Contains-append_left ps (ts ++ es) f h)
    p_back (inr h) = t_back (Contains-append_cases ts (vs ++ (ws ++ es)) f h)

    back : Contains (ps ++ (ts ++ (vs ++ (ws ++ es)))) f → Contains ((vs ++ ws) ++ (ps ++ (ts ++ es))) f
    back h = p_back (Contains-append_cases ps (ts ++ (vs ++ (ws ++ es))) f h)

pub same_regrouped : (ds vs ns es : List Fault) → SameFaults ((ds ++ vs) ++ (ns ++ es)) (ds ++ (ns ++ (vs ++ es)))
same_regrouped ds vs ns es f = (there, back)
  where
    d_in : Contains ds f ⊎ Contains vs f → Contains (ds ++ (ns ++ (vs ++ es))) f
    d_in (inl h) = Contains-append_left ds (ns ++ (vs ++ es)) f h
    d_in (inr h) = Contains-append_right ds (ns ++ (vs ++ es)) f (Contains-append_right ns (vs ++ es) f (Contains-append_left vs es f h))

    n_in : Contains ns f ⊎ Contains es f → Contains (ds ++ (ns ++ (vs ++ es))) f
    n_in (inl h) = Contains-append_right ds (ns ++ (vs ++ es)) f (Contains-append_left ns (vs ++ es) f h)
    n_in (inr h) = Contains-append_right ds (ns ++ (vs ++ es)) f (Contains-append_right ns (vs ++ es) f (Contains-append_right vs es f h))

    all_in : Contains (ds ++ vs) f ⊎ Contains (ns ++ es) f → Contains (ds ++ (ns ++ (vs ++ es))) f
    all_in (inl h) = d_in (Contains-append_cases ds vs f h)
    all_in (inr h) = n_in (Contains-append_cases ns es f h)

    there : Contains ((ds ++ vs) ++ (ns ++ es)) f → Contains (ds ++ (ns ++ (vs ++ es))) f
    there h = all_in (Contains-append_cases (ds ++ vs) (ns ++ es) f h)

    v_out : Contains vs f ⊎ Contains es f → Contains ((ds ++ vs) ++ (ns ++ es)) f
    v_out (inl h) = Contains-append_left (ds ++ vs) (ns ++ es) f (Contains-append_right ds vs f h)
    v_out (inr h) = Contains-append_right (ds ++ vs) (ns ++ es) f (Contains-append_right ns es f h)

    n_out : Contains ns f ⊎ Contains (vs ++ es) f → Contains ((ds ++ vs) ++ (ns ++ es)) f
    n_out (inl h) = Contains-append_right (ds ++ vs) (ns ++ es) f (Contains-append_left ns es f h)
    n_out (inr h) = v_out (Contains-append_cases vs es f h)

    d_out : Contains ds f ⊎ Contains (ns ++ (vs ++ es)) f → Contains ((ds ++ vs) ++ (ns ++ es)) f
    d_out (inl h) = Contains-append_left (ds ++ vs) (ns ++ es) f (Contains-append_left ds vs f h)
    d_out (inr h) = n_out (Contains-append_cases ns (vs ++ es) f h)

    back : Contains (ds ++ (ns ++ (vs ++ es))) f → Contains ((ds ++ vs) ++ (ns ++ es)) f
    back h = d_out (Contains-append_cases ds (ns ++ (vs ++ es)) f h)
