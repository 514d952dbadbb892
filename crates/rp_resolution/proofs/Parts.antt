-- A variable that is read, and parts that are read one after another.
use Rattle.std.proofs.Common.{◌≡◌, ◌∙◌, ℕ, ◌<◌, ◌≤◌, Bool, true, false, List, [], ◌∷◌, ◌++◌, map, length, refl, sym, ap, append_assoc, arith}
use Rattle.std.proofs.lemmas.List.{append-nil, map_push}
use Rattle.std.proofs.lemmas.Bool.Decides.{nat_tests}
use Rattle.std.specs.Cmp.Lexicographic.{nat_list_eq_equiv}
use Rattle.rp_words.specs.declared.form.Form.{Form}
use Rattle.rp_words.specs.declared.form.Form.TheOpen as F
use Rattle.rp_words.specs.declared.form.Form.TheVariants as V
use Rattle.rp_words.specs.declared.form.Form.TheFolds.{fold-roll-Form}
use Rattle.rp_words.specs.Bounds.{is_allowed, allowed_step}
use Rattle.rp_words.specs.Variables.{all_true}
use Rattle.rp_grammar.specs.declared.written.Name.{Name}
use Rattle.rp_tree.specs.Tree as tree
use Rattle.rp_tree.specs.Tree.{Tree}
use Rattle.rp_resolution.specs.declared.fault.CheckFault.{CheckFault}
use Rattle.rp_resolution.specs.PartFaults.{pattern_faults}
use Rattle.rp_resolution.specs.Context.{is_name}
use Rattle.rp_resolution.specs.Checked.{Tells}
use Rattle.rp_resolution.specs.Variables.{is_among, number_of}
use Rattle.rp_same_query.specs.Shapes.{Shape, shape_of, shape_step}
use Rattle.rp_resolution.specs.Shapes.{shaped}
use Rattle.rp_same_query.specs.Shapes as shape
use Rattle.rp_resolution.specs.Reading.{Reads, ReadsAll, all_after, all_faults}
use Rattle.rp_resolution.proofs.Telling.{tells_front}
use Rattle.rp_resolution.proofs.Joining.{among_place, place_stays, place_of_new, place_within}

allowed_variable : (k : ℕ) → is_allowed (V.Variable k) ≡ true
allowed_variable k = ap is_allowed (sym (V.rolls-Variable k)) ∙ fold-roll-Form Bool allowed_step (F.Variable k)

shape_variable : (k : ℕ) → shape_of (V.Variable k) ≡ shape.Variable k
shape_variable k = ap shape_of (sym (V.rolls-Variable k)) ∙ fold-roll-Form Shape shape_step (F.Variable k)

among_false : (name : List ℕ) (names : List (List ℕ)) → length names ≤ number_of name names → is_among name names ≡ false
among_false name names h = let e = among_place (λ other. is_name name other) names in grind (arith, nat_tests, e)

among_true : (name : List ℕ) (names : List (List ℕ)) → number_of name names < length names → is_among name names ≡ true
among_true name names h = let e = among_place (λ other. is_name name other) names in grind (arith, nat_tests, e)

-- a variable that was met before
pub reads_old : (before : List (List ℕ)) (n : Name) (k : ℕ) → k ≡ number_of n.text before → k < length before → Reads before (tree.Variable n) before (V.Variable k)
reads_old before n k is h =
    let within : number_of n.text before < length before = omega (arith, is) in
    record {
      allowed = allowed_variable k;
      names = rw (among_true n.text before within) refl;
      extra = [];
      grown = sym (append-nil before);
      shape = λ more. shape_variable k ∙ ap shape.Variable (is ∙ sym (place_stays (λ other. is_name n.text other) before more within));
    }

-- a variable that is met for the first time
pub reads_new : (before : List (List ℕ)) (n : Name) (k : ℕ) (now : List (List ℕ)) → k ≡ number_of n.text before → length before ≤ k → now ≡ before ++ n.text ∷ [] → Reads before (tree.Variable n) now (V.Variable k)
reads_new before n k now is h pushed =
    let past : length before ≤ number_of n.text before = omega (arith, is) in
    let all : number_of n.text before ≡ length before = omega (arith, past, place_within (λ other. is_name n.text other) before) in
    record {
      allowed = allowed_variable k;
      names = rw (among_false n.text before past) pushed;
      extra = n.text ∷ [];
      grown = pushed;
      shape = λ more. rw pushed (shape_variable k ∙ ap shape.Variable (is ∙ (all ∙ sym (place_of_new (λ other. is_name n.text other) before n.text more (nat_list_eq_equiv.refl n.text) all))));
    }

-- some parts are read, and the rest is still to be read
pub record ReadsSome (before : List (List ℕ)) (all done rest : List Tree) (now : List (List ℕ)) (fs : List Form) : Type 0 where
  pub clean : all_faults all ≡ all_faults rest
  pub allowed : all_true (map is_allowed fs) ≡ true
  pub names : all_after before all ≡ all_after now rest
  pub extra : List (List ℕ)
  pub grown : now ≡ before ++ extra
  pub shapes : (more : List (List ℕ)) → map shape_of fs ≡ map (shaped (now ++ more)) done

pub none_read : (before : List (List ℕ)) (all : List Tree) → ReadsSome before all [] all before []
none_read before all = record { clean = refl; allowed = refl; names = refl; extra = []; grown = sym (append-nil before); shapes = λ more. refl }

all_true_push : (bs : List Bool) → all_true bs ≡ true → all_true (bs ++ true ∷ []) ≡ true
all_true_push [] e = refl
all_true_push (true ∷ bs) e = all_true_push bs e
all_true_push (false ∷ bs) e = e

pub one_read : (before : List (List ℕ)) (all done rest : List Tree) (now later : List (List ℕ)) (fs : List Form) (t : Tree) (f : Form)
    → ReadsSome before all done (t ∷ rest) now fs → pattern_faults t ≡ [] → Reads now t later f → ReadsSome before all (done ++ t ∷ []) rest later (fs ++ f ∷ [])
one_read before all done rest now later fs t f s none r = record {
  clean = s.clean ∙ rw none refl;
  allowed = rw (map_push is_allowed fs f, r.allowed) (all_true_push (map is_allowed fs) s.allowed);
  names = s.names ∙ ap (λ ns. all_after ns rest) (sym r.names);
  extra = s.extra ++ r.extra;
  grown = r.grown ∙ (ap (λ ns. ns ++ r.extra) s.grown ∙ append_assoc before s.extra r.extra);
  shapes = λ more.
      let same : now ++ (r.extra ++ more) ≡ later ++ more = sym (append_assoc now r.extra more) ∙ ap (λ ns. ns ++ more) (sym r.grown) in
      let first : map shape_of fs ≡ map (shaped (later ++ more)) done = s.shapes (r.extra ++ more) ∙ ap (λ ns. map (shaped ns) done) same in
      map_push shape_of fs f ∙ (ap (λ ss. ss ++ shape_of f ∷ []) first ∙ (ap (λ g. map (shaped (later ++ more)) done ++ g ∷ []) (r.shape more) ∙ sym (map_push (shaped (later ++ more)) done t)));
}

pub one_wrong : (before : List (List ℕ)) (all done rest : List Tree) (now : List (List ℕ)) (fs : List Form) (t : Tree) (e : CheckFault)
    → ReadsSome before all done (t ∷ rest) now fs → Tells e (pattern_faults t) → Tells e (all_faults all)
one_wrong before all done rest now fs t e s told = rw s.clean (tells_front e (pattern_faults t) _ told)

pub all_read : (before : List (List ℕ)) (all : List Tree) (now : List (List ℕ)) (fs : List Form) → ReadsSome before all all [] now fs → (all_faults all ≡ []) × ReadsAll before all now fs
all_read before all now fs s = (s.clean, record { allowed = s.allowed; names = sym s.names; extra = s.extra; grown = s.grown; shapes = s.shapes })
