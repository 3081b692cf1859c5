-- A JSON value may go to another thread, and be lent to others; so may the members of an object. A
-- value reaches itself, so it is shown by layers: of what is inside it, and then of it.
use denote.Enum.Declared as E
use denote.Hole.FixSend.{Sends, fix_send, Syncs, fix_sync}
use denote.Param.Send.{IsSend, plain_send, recorded_send, struct_send, enum_send, view_send, IsSync}
use denote.Param.Send.{plain_sync, recorded_sync, struct_sync, enum_sync, view_sync}
use denote.RattleType.{RattleType}
use denote.Struct.Declared as S
use Rattle.json_members.specs.contracts.object.Object as Object
use Rattle.json_members.specs.contracts.object.Object.TheInside as InObject
use Rattle.serde_json.proofs.number.Number.TheSendSync as number
use Rattle.serde_json.specs.contracts.value.Value as Value
use Rattle.std.below.std_heap.proofs.GlobalAllocator.TheSendSync as frees
use Rattle.std.proofs.alloc.Global.TheSendSync as heap
use Rattle.std.proofs.collections.BTreeMap.TheSendSync as tree
use Rattle.std.proofs.string.String.TheSendSync as string
use Rattle.std.proofs.vec.Vec.TheSendSync as vec
use Rattle.std.specs.contracts.alloc.Global as Global
use Rattle.std.specs.contracts.collections.BTreeMap as BTreeMap
use Rattle.std.specs.contracts.impls.GlobalAllocator.TheImpl as alloc
use Rattle.std.specs.contracts.impls.StringOrd.TheImpl as ord
use Rattle.std.specs.contracts.impls.StringPartialEq.TheImpl as eq
use Rattle.std.specs.contracts.impls.StringPartialOrd.TheImpl as partial
use Rattle.std.specs.contracts.string.String as String
use Rattle.std.specs.contracts.vec.Vec as Vec

abbrev pub Strings : RattleType
Strings = String.the_row Global.the_row alloc.ghosts

abbrev pub Lists : RattleType → RattleType
Lists R = Vec.the_row R Global.the_row alloc.ghosts

abbrev pub Trees : RattleType → RattleType
Trees R = BTreeMap.the_row Strings R Global.the_row
    (ord.ghosts Global.the_row alloc.ghosts ord.no_dict ord.no_dict)
    (eq.ghosts Global.the_row alloc.ghosts eq.no_dict eq.no_dict)
    (partial.ghosts Global.the_row alloc.ghosts partial.no_dict partial.no_dict) alloc.ghosts

string_send : IsSend Strings
string_send = string.the_send Global.the_row alloc.ghosts heap.the_send frees.the_frees

pub list_send : (R : RattleType) → IsSend R → IsSend (Lists R)
list_send R s = vec.the_send R Global.the_row alloc.ghosts s heap.the_send frees.the_frees

tree_send : (R : RattleType) → IsSend R → IsSend (Trees R)
tree_send R s = tree.the_send Strings R Global.the_row
    (ord.ghosts Global.the_row alloc.ghosts ord.no_dict ord.no_dict)
    (eq.ghosts Global.the_row alloc.ghosts eq.no_dict eq.no_dict)
    (partial.ghosts Global.the_row alloc.ghosts partial.no_dict partial.no_dict) alloc.ghosts
    string_send s heap.the_send frees.the_frees

layer_send : (R : RattleType) → IsSend R → IsSend (E.row (Value.the_layer (λ _. R)))
layer_send R s =
    let T : E.Declared = Value.the_layer (λ _. R) in
    recorded_send (E.field T).row _ _ T.to_one (enum_send (E.shape T) (
      tt,
      (
        (plain_send _ _ _ _ _, tt),
        (
          (number.the_send, tt),
          (
            (string_send, tt),
            (
              (
                list_send R s,
                tt,
              ),
              ((tree_send R s, tt), tt),
            ),
          ),
        ),
      ),
    ))

held_send : IsSend Value.the_hole
held_send =
    fix_send Value.the_ring (Value.by_members (Sends Value.the_ring)
    (record {
      send = λ R all. layer_send (R Value.the_member)
          (all Value.the_member);
    })) Value.the_member

value_field_send : IsSend (Value.the_field).row
value_field_send = enum_send (E.shape Value.the_type) (
  tt,
  (
    (plain_send _ _ _ _ _, tt),
    (
      (number.the_field_send, tt),
      (
        (string.the_field_send Global.the_row alloc.ghosts heap.the_send frees.the_frees, tt),
        ((list_send Value.the_hole held_send, tt), ((tree_send Value.the_hole held_send, tt), tt)),
      ),
    ),
  ),
)

value_send : IsSend Value.the_row
value_send = recorded_send (Value.the_field).row _ _ (Value.the_type).to_one value_field_send

pub object_send : IsSend Object.the_row
object_send = view_send InObject.the_row _ _ _ _ (recorded_send (InObject.the_field).row _ _
    (InObject.the_type).to_one
    (struct_send (S.shape InObject.the_type) (tree_send Value.the_row value_send, tt)))

string_sync : IsSync Strings
string_sync = string.the_sync Global.the_row alloc.ghosts heap.the_sync

pub list_sync : (R : RattleType) → IsSync R → IsSync (Lists R)
list_sync R s = vec.the_sync R Global.the_row alloc.ghosts s heap.the_sync

tree_sync : (R : RattleType) → IsSync R → IsSync (Trees R)
tree_sync R s = tree.the_sync Strings R Global.the_row
    (ord.ghosts Global.the_row alloc.ghosts ord.no_dict ord.no_dict)
    (eq.ghosts Global.the_row alloc.ghosts eq.no_dict eq.no_dict)
    (partial.ghosts Global.the_row alloc.ghosts partial.no_dict partial.no_dict) alloc.ghosts
    string_sync s heap.the_sync

layer_sync : (R : RattleType) → IsSync R → IsSync (E.row (Value.the_layer (λ _. R)))
layer_sync R s =
    let T : E.Declared = Value.the_layer (λ _. R) in
    recorded_sync (E.field T).row _ _ T.to_one (enum_sync (E.shape T) (
      tt,
      (
        (plain_sync _ _ _ _ _, tt),
        (
          (number.the_sync, tt),
          (
            (string_sync, tt),
            (
              (
                list_sync R s,
                tt,
              ),
              ((tree_sync R s, tt), tt),
            ),
          ),
        ),
      ),
    ))

held_sync : IsSync Value.the_hole
held_sync =
    fix_sync Value.the_ring (Value.by_members (Syncs Value.the_ring)
    (record {
      sync = λ R all. layer_sync (R Value.the_member)
          (all Value.the_member);
    })) Value.the_member

value_field_sync : IsSync (Value.the_field).row
value_field_sync = enum_sync (E.shape Value.the_type) (
  tt,
  (
    (plain_sync _ _ _ _ _, tt),
    (
      (number.the_field_sync, tt),
      (
        (string.the_field_sync Global.the_row alloc.ghosts heap.the_sync, tt),
        ((list_sync Value.the_hole held_sync, tt), ((tree_sync Value.the_hole held_sync, tt), tt)),
      ),
    ),
  ),
)

value_sync : IsSync Value.the_row
value_sync = recorded_sync (Value.the_field).row _ _ (Value.the_type).to_one value_field_sync

pub object_sync : IsSync Object.the_row
object_sync = view_sync InObject.the_row _ _ _ _ (recorded_sync (InObject.the_field).row _ _
    (InObject.the_type).to_one
    (struct_sync (S.shape InObject.the_type) (tree_sync Value.the_row value_sync, tt)))
