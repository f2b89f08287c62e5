-- Elements that were parsed before, followed by those parsed after them.
use Rattle.std.proofs.Common.{◌≡◌, List, [], ◌++◌, Ok, Err, refl, sym, ap}
use Rattle.std.proofs.lemmas.List.{append-nil, append_assoc}
use Rattle.justfile_model.specs.Readers.ReaderState.{Read, ReadError, State, prepend}
use Rattle.justfile_model.proofs.Readers.ReadingSteps.{Goes, Keeps}

module _ {R T B : Type 0} where
  -- nothing is read yet
  pub after_begin : {X : Type 0} (found : Read R T B (List X)) → prepend [] found ≡ found
  unfolding prepend
  after_begin (Ok x) = refl
  after_begin (Err e) = refl

  pub after_regroups : {X : Type 0} (done more : List X) (found : Read R T B (List X)) → prepend done (prepend more found) ≡ prepend (done ++ more) found
  unfolding prepend
  after_regroups {X} done more (Ok x) = ap (λ (l : List X). Ok (l, x.1)) (sym (append_assoc done more x.0))
  after_regroups done more (Err e) = refl

  pub after_nothing : {X : Type 0} (done : List X) (rest : State R T B) → prepend done (Ok ([], rest)) ≡ Ok (done, rest)
  unfolding prepend
  after_nothing {X} done rest = ap (λ (l : List X). Ok (l, rest)) (append-nil done)

  pub after_refused : {X : Type 0} (done : List X) (e : ReadError T B) → prepend {R = R} done (Err e) ≡ Err e
  unfolding prepend
  after_refused done e = refl

  pub after_keeps : {X : Type 0} (done : List X) (s : State R T B) (found : Read R T B (List X)) → Keeps s found → Keeps s (prepend done found)
  unfolding prepend
  after_keeps done s (Ok x) h = h
  after_keeps done s (Err e) h = tt

  pub after_goes : {X : Type 0} (done : List X) (s : State R T B) (found : Read R T B (List X)) → Goes s found → Goes s (prepend done found)
  unfolding prepend
  after_goes done s (Ok x) h = h
  after_goes done s (Err e) h = tt
