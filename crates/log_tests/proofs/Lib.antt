mod OneRecord
