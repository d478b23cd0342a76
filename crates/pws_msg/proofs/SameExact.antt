-- The tests of sameness are equality.
use Rattle.std.proofs.Common.{◌≡◌, ◌↔◌, ℕ, ◌&&◌, Bool, true, false, IsTrue, List, [], ◌∷◌, refl, sym, ◌∙◌, ap, subst}
use Rattle.std.specs.Prelude.{nat_eq}
use Rattle.std.specs.Cmp.{IsEquivalence}
use Rattle.std.specs.Cmp.Lexicographic.{pointwise, same_text}
use Rattle.std.proofs.lemmas.Bool.{eqb-true}
use Rattle.pws_msg.specs.declared.changes.Checkpoint.{Checkpoint}
use Rattle.pws_msg.specs.declared.changes.PRow.{PRow}
use Rattle.pws_msg.specs.declared.changes.Seen.{Seen}
use Rattle.pws_msg.specs.declared.changes.QRow.{QRow}
use Rattle.pws_msg.specs.declared.changes.Named.{Named}
use Rattle.pws_msg.specs.declared.changes.Choice.{Choice}
use Rattle.pws_msg.specs.declared.changes.ViewChange.{ViewChange}
use Rattle.pws_msg.specs.declared.changes.NewView.{NewView}
use Rattle.pws_msg.specs.Same.{same_checkpoint, same_p_row, same_seen, same_q_row, same_view_change, same_named, same_choice, same_new_view, q_row_equiv, view_change_equiv, choice_equiv, new_view_equiv}

-- what passes is the same
abbrev Tells : {K : Type 0} → (K → K → Bool) → Type 0
Tells {K = K} E = (x y : K) → E x y ≡ true → x ≡ y

both : (a b : Bool) → (a && b) ≡ true → (a ≡ true) × (b ≡ true)
both true b h = (refl, h)
both false b h = absurd (cc)

lists : {K : Type 0} (E : K → K → Bool) → Tells E → Tells (pointwise E)
lists E t [] [] h = refl
lists E t [] (y ∷ ys) h = absurd (cc)
lists E t (x ∷ xs) [] h = absurd (cc)
lists E t (x ∷ xs) (y ∷ ys) h =
    let (a, b) = both (E x y) (pointwise E xs ys) h in
    ap (λ z. z ∷ xs) (t x y a) ∙ ap (λ zs. y ∷ zs) (lists E t xs ys b)

texts : Tells (pointwise nat_eq)
texts xs ys h = same_text xs ys (sym h)

checkpoints : Tells same_checkpoint
checkpoints x y h =
    let (a, b) = both (nat_eq x.place y.place) (pointwise nat_eq x.digest y.digest) h in
    ap (λ n. record { place = n; digest = x.digest }) (eqb-true x.place y.place a) ∙ ap (λ d. record { place = y.place; digest = d }) (texts x.digest y.digest b)

p_rows : Tells same_p_row
p_rows x y h =
    let (a, more) = both (nat_eq x.place y.place) (pointwise nat_eq x.digest y.digest && nat_eq x.view y.view) h in
    let (b, c) = both (pointwise nat_eq x.digest y.digest) (nat_eq x.view y.view) more in
    let make : ℕ → List ℕ → ℕ → PRow = λ p d v. record { place = p; digest = d; view = v } in
    ap (λ n. make n x.digest x.view) (eqb-true x.place y.place a) ∙ (ap (λ d. make y.place d x.view) (texts x.digest y.digest b) ∙ ap (λ n. make y.place y.digest n) (eqb-true x.view y.view c))

seens : Tells same_seen
seens x y h =
    let (a, b) = both (pointwise nat_eq x.digest y.digest) (nat_eq x.view y.view) h in
    ap (λ d. record { digest = d; view = x.view }) (texts x.digest y.digest a) ∙ ap (λ n. record { digest = y.digest; view = n }) (eqb-true x.view y.view b)

q_rows : Tells same_q_row
q_rows x y h =
    let (a, b) = both (nat_eq x.place y.place) (pointwise same_seen x.digests y.digests) h in
    let make : ℕ → List Seen → QRow = λ p d. record { place = p; digests = d } in
    ap (λ n. make n x.digests) (eqb-true x.place y.place a) ∙ ap (λ ds. make y.place ds) (lists same_seen seens x.digests y.digests b)

view_changes : Tells same_view_change
view_changes x y h =
    let (a, h1) = both (nat_eq x.view y.view) (nat_eq x.low y.low && (pointwise same_checkpoint x.checkpoints y.checkpoints && (pointwise same_p_row x.prepared y.prepared && pointwise same_q_row x.pre_prepared y.pre_prepared))) h in
    let (b, h2) = both (nat_eq x.low y.low) (pointwise same_checkpoint x.checkpoints y.checkpoints && (pointwise same_p_row x.prepared y.prepared && pointwise same_q_row x.pre_prepared y.pre_prepared)) h1 in
    let (c, h3) = both (pointwise same_checkpoint x.checkpoints y.checkpoints) (pointwise same_p_row x.prepared y.prepared && pointwise same_q_row x.pre_prepared y.pre_prepared) h2 in
    let (d, e) = both (pointwise same_p_row x.prepared y.prepared) (pointwise same_q_row x.pre_prepared y.pre_prepared) h3 in
    let make : ℕ → ℕ → List Checkpoint → List PRow → List QRow → ViewChange = λ v l cs ps qs. record { view = v; low = l; checkpoints = cs; prepared = ps; pre_prepared = qs } in
    ap (λ v. make v x.low x.checkpoints x.prepared x.pre_prepared) (eqb-true x.view y.view a)
    ∙ (ap (λ l. make y.view l x.checkpoints x.prepared x.pre_prepared) (eqb-true x.low y.low b)
    ∙ (ap (λ cs. make y.view y.low cs x.prepared x.pre_prepared) (lists same_checkpoint checkpoints x.checkpoints y.checkpoints c)
    ∙ (ap (λ ps. make y.view y.low y.checkpoints ps x.pre_prepared) (lists same_p_row p_rows x.prepared y.prepared d)
    ∙ ap (λ qs. make y.view y.low y.checkpoints y.prepared qs) (lists same_q_row q_rows x.pre_prepared y.pre_prepared e))))

names : Tells same_named
names x y h =
    let (a, b) = both (nat_eq x.index y.index) (pointwise nat_eq x.digest y.digest) h in
    ap (λ n. record { index = n; digest = x.digest }) (eqb-true x.index y.index a) ∙ ap (λ d. record { index = y.index; digest = d }) (texts x.digest y.digest b)

choices : Tells same_choice
choices x y h =
    let (a, more) = both (nat_eq x.place y.place) (pointwise nat_eq x.digest y.digest && pointwise (pointwise nat_eq) x.chosen y.chosen) h in
    let (b, c) = both (pointwise nat_eq x.digest y.digest) (pointwise (pointwise nat_eq) x.chosen y.chosen) more in
    let make : ℕ → List ℕ → List (List ℕ) → Choice = λ p d cs. record { place = p; digest = d; chosen = cs } in
    ap (λ n. make n x.digest x.chosen) (eqb-true x.place y.place a) ∙ (ap (λ d. make y.place d x.chosen) (texts x.digest y.digest b) ∙ ap (λ cs. make y.place y.digest cs) (lists (pointwise nat_eq) texts x.chosen y.chosen c))

new_views : Tells same_new_view
new_views x y h =
    let (a, more) = both (nat_eq x.view y.view) (pointwise same_named x.named y.named && same_choice x.choice y.choice) h in
    let (b, c) = both (pointwise same_named x.named y.named) (same_choice x.choice y.choice) more in
    let make : ℕ → List Named → Choice → NewView = λ v ns c. record { view = v; named = ns; choice = c } in
    ap (λ v. make v x.named x.choice) (eqb-true x.view y.view a) ∙ (ap (λ ns. make y.view ns x.choice) (lists same_named names x.named y.named b) ∙ ap (λ c. make y.view y.named c) (choices x.choice y.choice c))

-- what was answered by such a test tells whether the two are equal
equality : {K : Type 0} (E : K → K → Bool) → Tells E → IsEquivalence E → (x y : K) (r : Bool) → r ≡ E x y → IsTrue r ↔ (x ≡ y)
equality E t q x y r e = (λ h. t x y (sym e ∙ h), λ p. e ∙ subst (λ z. E x z ≡ true) p (q.refl x))

pub q_rows_equal : (x y : QRow) (r : Bool) → r ≡ same_q_row x y → IsTrue r ↔ (x ≡ y)
q_rows_equal = equality same_q_row q_rows q_row_equiv

pub view_changes_equal : (x y : ViewChange) (r : Bool) → r ≡ same_view_change x y → IsTrue r ↔ (x ≡ y)
view_changes_equal = equality same_view_change view_changes view_change_equiv

pub choices_equal : (x y : Choice) (r : Bool) → r ≡ same_choice x y → IsTrue r ↔ (x ≡ y)
choices_equal = equality same_choice choices choice_equiv

pub new_views_equal : (x y : NewView) (r : Bool) → r ≡ same_new_view x y → IsTrue r ↔ (x ≡ y)
new_views_equal = equality same_new_view new_views new_view_equiv
