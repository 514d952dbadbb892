-- Rows that have the key of their partition.
use Rattle.std.proofs.Common.{◌≡◌, ℕ, Bool, true, false, cond, List, [], ◌∷◌, None, Ok, Err, sym, subst}
use Rattle.std.specs.Prelude.{nat_le, nat_lt}
use Rattle.rp_value.specs.declared.value.Value.{Value}
use Rattle.rp_value.specs.Rows.{row_fault}
use Rattle.rp_value.specs.Tables.{kinds_of}
use Rattle.rp_query.specs.declared.query.QueryData.{QueryData}
use Rattle.rp_query.specs.Keys.{KeysFit, key_kinds, key_of}
use Rattle.rp_feed.specs.declared.answer.Taken.TheVariants.{New, Repeat, Old}
use Rattle.rp_feed.specs.Fed.{Fed, Numbered, fed_from, with_row, rows_from}
use Rattle.rp_feed.specs.Answers.{Answer, after}
use Rattle.rp_feed.specs.declared.packet.Packet.{Packet}
use Rattle.rp_feed.specs.declared.packet.Packet.TheVariants.{Row as RowPacket, Close as ClosePacket}
use Rattle.rp_partition.specs.Polling.{OnlyDrops}
use Rattle.rp_node.specs.Keyed.{RowsHaveKey, IsOfKey}
use Rattle.rp_node.specs.Accepting.{fed_with, packet_fault, packet_key}
use Rattle.rp_node.specs.Taking.{KeepsKey}

-- one row more, which has it
have_put : (q : QueryData) (key : List Value) (n : ℕ) (row : List Value) (rows : List Numbered) → row_fault (kinds_of q.table) row ≡ None → key_of q row ≡ key → RowsHaveKey q key rows → RowsHaveKey q key (with_row n row rows)
have_put q key n row [] fits has h = (fits, has, tt)
have_put q key n row ((m, other) ∷ rows) fits has h = go (nat_lt n m) (have_put q key n row rows fits has h.2)
  where
    go : (b : Bool) → RowsHaveKey q key (with_row n row rows) → RowsHaveKey q key (cond b ((n, row) ∷ ((m, other) ∷ rows)) ((m, other) ∷ with_row n row rows))
    go true i = (fits, has, h)
    go false i = (h.0, h.1, i)

-- fewer rows
have_from : (q : QueryData) (key : List Value) (n : ℕ) (rows : List Numbered) → RowsHaveKey q key rows → RowsHaveKey q key (rows_from n rows)
have_from q key n [] h = tt
have_from q key n ((m, row) ∷ rows) h = go (nat_le n m) (have_from q key n rows h.2)
  where
    go : (b : Bool) → RowsHaveKey q key (rows_from n rows) → RowsHaveKey q key (cond b ((m, row) ∷ rows_from n rows) (rows_from n rows))
    go true i = (h.0, h.1, i)
    go false i = i

-- where rows alone are dropped, those that have the key are left with it
pub dropped_keeps : (q : QueryData) (before later : Fed) → OnlyDrops before later → KeepsKey q before.rows later.rows
dropped_keeps q before later drops = λ key of. record { kinds = of.kinds; have = subst (RowsHaveKey q key) (sym drops.rows) (have_from q key later.first before.rows of.have) }

-- ---- a packet

packet_put : (q : QueryData) (packet : Packet) (key : List Value) (fed : Fed) → packet_fault q packet ≡ None → key ≡ packet_key q packet → IsOfKey q key fed.rows → IsOfKey q key (fed_with packet fed).rows
packet_put q (RowPacket n row) key fed fits is of = record { kinds = of.kinds; have = have_put q key n row fed.rows fits (sym is) of.have }
packet_put q (ClosePacket other count) key fed fits is of = of

pub packet_keeps : (q : QueryData) (packet : Packet) (key : List Value) (fed new : Fed) (result : Answer) → packet_fault q packet ≡ None → key ≡ packet_key q packet → new ≡ after result (fed_with packet fed) fed → IsOfKey q key fed.rows → IsOfKey q key new.rows
packet_keeps q packet key fed new (Ok New) fits is e of = subst (λ (f : Fed). IsOfKey q key f.rows) (sym e) (packet_put q packet key fed fits is of)
packet_keeps q packet key fed new (Ok Repeat) fits is e of = subst (λ (f : Fed). IsOfKey q key f.rows) (sym e) of
packet_keeps q packet key fed new (Ok Old) fits is e of = subst (λ (f : Fed). IsOfKey q key f.rows) (sym e) of
packet_keeps q packet key fed new (Err x) fits is e of = subst (λ (f : Fed). IsOfKey q key f.rows) (sym e) of

-- of a partition that is new
pub packet_begins : KeysFit → (q : QueryData) (packet : Packet) (key : List Value) → packet_fault q packet ≡ None → key ≡ packet_key q packet → IsOfKey q key (fed_with packet (fed_from 1)).rows
packet_begins keys q (RowPacket n row) key fits is = record { kinds = subst (λ k. row_fault (key_kinds q) k ≡ None) (sym is) (keys q row fits); have = (fits, sym is, tt) }
packet_begins keys q (ClosePacket other count) key fits is = record { kinds = subst (λ k. row_fault (key_kinds q) k ≡ None) (sym is) fits; have = tt }
