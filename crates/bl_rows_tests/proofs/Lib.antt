mod OneColumn
