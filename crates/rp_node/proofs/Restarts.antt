-- Partitions that go on, one after another.
use Rattle.std.proofs.Common.{◌≡◌, Bool, true, false, cond, ◌&&◌, not, List, [], ◌∷◌, Some, None, refl, sym, ap, ◌∙◌, subst}
use Rattle.std.specs.Prelude.{is_some}
use Rattle.std.specs.Map.{lookup}
use Rattle.std.specs.declared.vec.Vec.{Vec}
use Rattle.std.specs.declared.alloc.Global.{Global}
use Rattle.indexmap.specs.IndexMap.{insert_entry}
use Rattle.rp_value.specs.declared.value.Value.{Value}
use Rattle.rp_query.specs.declared.query.QueryData.{QueryData}
use Rattle.rp_query.specs.Keys.{same_key}
use Rattle.rp_checkpoint.specs.declared.node_data.PartitionData.{PartitionData}
use Rattle.rp_schedules.specs.Records.{Held}
use Rattle.rp_partition.specs.declared.partition.Partition.{Partition}
use Rattle.rp_partition.specs.Joined.{held_of}
use Rattle.rp_node.specs.Keyed.{IsPartition}
use Rattle.rp_node.specs.NodeSeen.{Entries, Map, MapOf, AllJoined, entries_by, entry_at, with_entry}
use Rattle.rp_node.specs.Resuming.{held_in, is_restorable, Resumed}
use Rattle.rp_node.specs.Restarting.{is_next, records_from, RestoredOne}
use Rattle.rp_node.proofs.Entries.{insert_is}
use Rattle.rp_node.proofs.Nodes.{joined_insert}

some_alike : {P V : Type 0} (of : P → V) (key : List Value) (es : MapOf P) → is_some (entry_at (entries_by of es) key) ≡ is_some (lookup (λ k. same_key key k.items) es)
some_alike of key [] = refl
some_alike of key (e ∷ es) = go (same_key key e.0.items) (some_alike of key es)
  where
    go : (b : Bool) → is_some (entry_at (entries_by of es) key) ≡ is_some (lookup (λ k. same_key key k.items) es)
        → is_some (cond b (Some (of e.1)) (entry_at (entries_by of es) key)) ≡ is_some (cond b (Some e.1) (lookup (λ k. same_key key k.items) es))
    go true h = refl
    go false h = h

and_not : (b c : Bool) → c ≡ true → b && not c ≡ false
and_not true c h = ap not h
and_not false c h = refl

there : (q : QueryData) (es : Map) (p : PartitionData) (sought : List Value) (b : Bool) → sought ≡ p.key → is_some (lookup (λ k. same_key sought k.items) es) ≡ b → is_some (entry_at (entries_by held_of es) p.key) ≡ b
there q es p sought b e h = subst (λ (k : List Value). is_some (entry_at (entries_by held_of es) k) ≡ b) e (some_alike held_of sought es ∙ h)

pub not_next : (q : QueryData) (es : Map) (p : PartitionData) (sought : List Value) → sought ≡ p.key → is_some (lookup (λ k. same_key sought k.items) es) ≡ true → is_next q (entries_by held_of es) p ≡ false
not_next q es p sought e h = and_not (is_restorable q p) (is_some (entry_at (entries_by held_of es) p.key)) (there q es p sought true e h)

pub one_restored : (q : QueryData) (es new : Map) (p : PartitionData) (sought : List Value) (key : Vec Value Global) (part : Partition) → sought ≡ p.key → is_some (lookup (λ k. same_key sought k.items) es) ≡ false
    → key.items ≡ p.key → Resumed q p (Some part) → AllJoined q es → new ≡ insert_entry (λ j k. same_key j.items k.items) es key part → RestoredOne q es p new true
one_restored q es new p sought key part e h k r all now = (
  ap (λ b. b && not (is_some (entry_at (entries_by held_of es) p.key))) r.0 ∙ ap not (there q es p sought false e h),
  ap (entries_by held_of) now ∙ insert_is held_of key part es ∙ ap (λ (z : List Value). with_entry z (held_of part) (entries_by held_of es)) k ∙ ap (λ (z : Held). with_entry p.key z (entries_by held_of es)) r.1,
  subst (AllJoined q) (sym now)
      (joined_insert q key part es all (subst (λ (z : List Value). is_some (lookup (λ j. same_key z j.items) es) ≡ false) (e ∙ sym k) h) (subst (λ (z : List Value). IsPartition q z part) (sym k) r.2)),
)

pub goes_on : (q : QueryData) (es new : Map) (p : PartitionData) (ps : List PartitionData) → RestoredOne q es p new true
    → records_from q (entries_by held_of es) (p ∷ ps) ≡ records_from q (entries_by held_of new) ps
goes_on q es new p ps r =
    ap (λ (b : Bool). cond b (records_from q (with_entry p.key (held_in p) (entries_by held_of es)) ps) None) r.0
    ∙ ap (λ (e : Entries Held). records_from q e ps) (sym r.1)

pub stops_at : (q : QueryData) (es new : Map) (p : PartitionData) (ps : List PartitionData) → RestoredOne q es p new false → records_from q (entries_by held_of es) (p ∷ ps) ≡ None
stops_at q es new p ps r = ap (λ (b : Bool). cond b (records_from q (with_entry p.key (held_in p) (entries_by held_of es)) ps) None) r
