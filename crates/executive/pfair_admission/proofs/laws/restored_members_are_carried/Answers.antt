use Rattle.pfair_admission.proofs.Restoring.{all_able, all_again, in_frame_more, left_more, named_more, room_more}
use Rattle.pfair_admission.proofs.laws.restored_members_are_carried.Goals as goal

pub returns : goal.returns
returns c = record { named = named_more; room = room_more; in_frame = in_frame_more; left = left_more; again = all_again; able = all_able }
