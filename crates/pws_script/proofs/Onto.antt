-- Reading one after the other: what came before, in front of what is read from the rest.
use Rattle.std.proofs.Common.{◌≡◌, ℕ, suc, ◌+◌, ◌<◌, List, [], ◌∷◌, ◌++◌, length, map, drop, get_or, Result, Ok, Err, refl, sym, ◌∙◌, ap, append_assoc, append-nil, Bor, add-one}
use Rattle.std.proofs.Math.Seq.{drop-cons}
use Rattle.pws_script.specs.declared.faults.ScriptFault.{ScriptFault}
use Rattle.pws_script.specs.Reading.{◌>>=◌}
use Rattle.pws_script.specs.Steps.{register_at, registers_at}

abbrev pub onto : {A E : Type 0} → List A → Result (List A) E → Result (List A) E
onto front (Ok more) = Ok (front ++ more)
onto front (Err e) = Err e

pub onto_more : {A E : Type 0} (front : List A) (x : A) (rest : Result (List A) E) → onto front (onto (x ∷ []) rest) ≡ onto (front ++ x ∷ []) rest
onto_more front x (Ok more) = ap Ok (sym (append_assoc front (x ∷ []) more))
onto_more front x (Err e) = refl

pub onto_nothing : {A E : Type 0} (front : List A) → onto {E = E} front (Ok []) ≡ Ok front
onto_nothing front = ap Ok (append-nil front)

prepended : (r : ℕ) (rest : Result (List ℕ) ScriptFault) → rest >>= (λ indices. Ok (r ∷ indices)) ≡ onto (r ∷ []) rest
prepended r (Ok more) = refl
prepended r (Err e) = refl

registers_step : (word : List ℕ) (words : List (List ℕ)) (r : ℕ) → register_at word ≡ Ok r → registers_at (word ∷ words) ≡ onto (r ∷ []) (registers_at words)
registers_step word words r h = rw h (prepended r (registers_at words))

-- one more register is read
pub registers_more : (words : List (Bor (List ℕ))) (front : List ℕ) (i : ℕ) (d : Bor (List ℕ)) (r : ℕ) (all : Result (List ℕ) ScriptFault) → i < length words → register_at (get_or words i d).now ≡ Ok r → all ≡ onto front (registers_at (map (λ w. w.now) (drop i words))) → all ≡ onto (front ++ r ∷ []) (registers_at (map (λ w. w.now) (drop (i + 1) words)))
registers_more words front i d r all h k e =
    let cut = ap (λ ws. onto front (registers_at (map (λ (w : Bor (List ℕ)). w.now) ws))) (drop-cons words i d h) in
    let rest = map (λ (w : Bor (List ℕ)). w.now) (drop (suc i) words) in
    rw add-one (e ∙ (cut ∙ (ap (onto front) (registers_step (get_or words i d).now rest r k) ∙ onto_more front r (registers_at rest))))

registers_stop : (word : List ℕ) (words : List (List ℕ)) (kind : ScriptFault) → register_at word ≡ Err kind → registers_at (word ∷ words) ≡ Err kind
registers_stop word words kind h = rw h refl

-- the next word is no register
pub registers_fault : (words : List (Bor (List ℕ))) (front : List ℕ) (i : ℕ) (d : Bor (List ℕ)) (kind : ScriptFault) (all : Result (List ℕ) ScriptFault) → i < length words → register_at (get_or words i d).now ≡ Err kind → all ≡ onto front (registers_at (map (λ w. w.now) (drop i words))) → all ≡ Err kind
registers_fault words front i d kind all h k e =
    let cut = ap (λ ws. onto front (registers_at (map (λ (w : Bor (List ℕ)). w.now) ws))) (drop-cons words i d h) in
    let rest = map (λ (w : Bor (List ℕ)). w.now) (drop (suc i) words) in
    e ∙ (cut ∙ ap (onto front) (registers_stop (get_or words i d).now rest kind k))
